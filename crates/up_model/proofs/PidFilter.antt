-- The kind `pid_filter` keeps the laws, and what a consumer takes of a split.
use Rattle.std.proofs.Common.{◌≡◌, ℕ, List, [], ◌∷◌, Bool, true, false, if◌then◌else◌, cond, Some, refl, ap, subst, arith}
use Rattle.std.proofs.lemmas.Bool.{both_ways}
use Rattle.std.proofs.lemmas.List.Folds.{list_any_at}
use Rattle.std.specs.List.{IsAmong, cons_option, filter}
use Rattle.up_model.proofs.Lawful.{KeepsFlows, by_packets}
use Rattle.up_model.proofs.Packetwise.{KeepsLegal, IsCutOf}
use Rattle.up_model.specs.KindMeaning.{no_options}
use Rattle.up_model.specs.Packet.{PlainPacket, Flow, IsLegal}
use Rattle.up_model.specs.Packetwise.{IfPasses, passed, put_of}
use Rattle.up_model.specs.PidFilter.{has_pid_of, pid_filter_step, pid_filter_meaning, ArePids}
use Rattle.up_model.specs.Shares.{has_pid, of_pid}
use Rattle.up_model.specs.declared.fan_out.FanOut.TheVariants as fans
use Rattle.up_model.specs.declared.verdict.Verdict.TheVariants.{Passes, Drops}

module _ (pids : List ℕ) where
  pub pid_filter_is_legal : KeepsLegal (pid_filter_step pids)
  pid_filter_is_legal packet legal = by_test (has_pid_of pids packet)
    where
      by_test : (has : Bool) → IfPasses (if has then Passes packet 0 else Drops) IsLegal
      by_test true = legal
      by_test false = tt

  -- a packet that passes keeps its bytes
  pub pid_filter_cuts : (packet : PlainPacket) → IsCutOf packet (pid_filter_step pids packet)
  pid_filter_cuts packet = by_test (has_pid_of pids packet)
    where
      by_test : (has : Bool) → IsCutOf packet (if has then Passes packet 0 else Drops)
      by_test true = omega arith
      by_test false = tt

  pub pid_filter_keeps_flows : KeepsFlows (pid_filter_meaning pids)
  pid_filter_keeps_flows = by_packets (ArePids pids) (pid_filter_step pids) no_options fans.One pid_filter_is_legal

  module _ (pid : ℕ) (among : IsAmong pids pid) where
    -- a packet of one of the PIDs passes
    own_passes : (packet : PlainPacket) → has_pid pid packet ≡ true → has_pid_of pids packet ≡ true
    own_passes packet own =
        list_any_at (λ other. has_pid other packet) pids among.0 pid among.1.0
        (subst (λ (other : ℕ). has_pid other packet ≡ true) among.1.1 own)

    own_of_next : (packet : PlainPacket) (put rest : Flow) (own kept : Bool) → has_pid pid packet ≡ own
        → has_pid_of pids packet ≡ kept
        → filter (has_pid pid) put ≡ rest
        → filter (has_pid pid) (cons_option (put_of (if kept then Passes packet 0 else Drops)) put)
        ≡ cond own (packet ∷ rest) rest
    own_of_next packet put rest true true is kept before = rw is (ap (λ flow. packet ∷ flow) before)
    own_of_next packet put rest false true is kept before = rw is before
    own_of_next packet put rest false false is kept before = before
    own_of_next packet put rest true false is kept before = absurd (both_ways _ kept (own_passes packet is))

    -- of what is put out by some PIDs, the packets of one of them are those of all that was taken
    pub own_of_filtered : (taken : Flow) → of_pid (Some pid) (passed (pid_filter_step pids) taken) ≡ of_pid (Some pid) taken
    own_of_filtered [] = refl
    own_of_filtered (packet ∷ taken) =
        own_of_next packet (passed (pid_filter_step pids) taken) (of_pid (Some pid) taken) (has_pid pid packet)
        (has_pid_of pids packet) refl refl
        (own_of_filtered taken)
