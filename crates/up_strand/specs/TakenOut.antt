-- How a strand changes as the item that waits at a node is taken out there.
use Rattle.std.specs.Prelude.{◌≡◌, ◌≢◌, ◌⊎◌, ℕ, [], ◌∷◌, length, slice_index_or, slice_set, true, false, Some, None}
use Rattle.up_queue.specs.declared.end_kind.EndKind.{EndKind}
use Rattle.up_queue.specs.declared.item.Item.{Item}
use Rattle.up_queue.specs.declared.item.Item.TheVariants.{Packet, End}
use Rattle.up_strand.specs.History.{end_by}
use Rattle.up_strand.specs.declared.node.Node.{Node}
use Rattle.up_strand.specs.declared.strand.Strand.{Strand}

-- the first packet that waited there has left the node
pub record HasLeft {P K : Type 0} (packet : P) (old new : Node P K) : Type 0 where
  pub first : old.out.packets ≡ packet ∷ new.out.packets
  pub tally : new.out.tally ≡ old.out.tally
  pub same : new ≡ record old { out = new.out }

module _ {P S K : Type 0} (place : ℕ) (old new : Strand P S K) where
  -- the packet that came back was taken out, or else the first that waits, or else the end
  pub record TookKept (packet : P) : Type 0 where
    pub kept : old.kept ≡ Some packet
    pub same : new ≡ record old { kept = None }

  pub record TookFirst (packet : P) : Type 0 where
    pub none : old.kept ≡ None
    pub count : length new.tree.nodes.items ≡ length old.tree.nodes.items
    pub here : (d : Node P K) → HasLeft packet (slice_index_or old.tree.nodes.items place d)
        (slice_index_or new.tree.nodes.items place d)
    pub others : (i : ℕ) (d : Node P K) → i ≢ place → slice_index_or new.tree.nodes.items i d
        ≡ slice_index_or old.tree.nodes.items i d
    pub same : new ≡ record old { tree = record old.tree { nodes = new.tree.nodes } }

  pub record TookEnd (kind : EndKind) : Type 0 where
    pub none : old.kept ≡ None
    pub empty : (d : Node P K) → (slice_index_or old.tree.nodes.items place d).out.packets ≡ []
    pub kind_is : kind ≡ end_by old.tree.short old.ended
    pub nodes : new.tree.nodes.items ≡ old.tree.nodes.items
    pub closed : new.closed.items ≡ slice_set old.closed.items place true
    pub same : new ≡ record old {
      tree = record old.tree { nodes = new.tree.nodes };
      closed = new.closed;
    }

  abbrev pub TookOut : Item P → Type 0
  TookOut (Packet p) = TookKept p ⊎ TookFirst p
  TookOut (End kind) = TookEnd kind

  -- the item is back
  abbrev pub PutBack : Item P → Type 0
  PutBack (Packet p) = new ≡ record old { kept = Some p }
  PutBack (End kind) = (new.closed.items ≡ slice_set old.closed.items place false)
      × (new ≡ record old { closed = new.closed })
