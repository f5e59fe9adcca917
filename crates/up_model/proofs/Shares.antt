-- What a consumer takes grows with the output, and is legal where that is.
use Rattle.std.proofs.Common.{ℕ, [], ◌++◌, All, Option, Some, None, refl}
use Rattle.std.proofs.lemmas.List.Elements.{All-nil, filter-append, All-filter}
use Rattle.up_base.specs.Lists.{IsPrefix}
use Rattle.up_model.specs.Packet.{Flow, IsLegal}
use Rattle.up_model.specs.Shares.{has_pid, of_pid, share_by}
use Rattle.up_model.specs.declared.fan_out.FanOut.{FanOut}
use Rattle.up_model.specs.declared.fan_out.FanOut.TheVariants as fans

of_pid_longer : (select : Option ℕ) (front more : Flow) → IsPrefix (of_pid select front) (of_pid select (front ++ more))
of_pid_longer None front more = ([], refl)
of_pid_longer (Some number) front more = (of_pid (Some number) more, filter-append (has_pid number) front more)

of_pid_legal : (select : Option ℕ) (flow : Flow) → All IsLegal flow → All IsLegal (of_pid select flow)
of_pid_legal None flow legal = All-nil IsLegal
of_pid_legal (Some number) flow legal = All-filter (has_pid number) IsLegal flow legal

pub share_longer : (fan_out : FanOut) (select : Option ℕ) (front more : Flow) → IsPrefix (share_by fan_out select front) (share_by fan_out select (front ++ more))
share_longer fans.None select front more = (more, refl)
share_longer fans.One select front more = (more, refl)
share_longer fans.All select front more = (more, refl)
share_longer fans.Selected select front more = of_pid_longer select front more

pub share_legal : (fan_out : FanOut) (select : Option ℕ) (flow : Flow) → All IsLegal flow → All IsLegal (share_by fan_out select flow)
share_legal fans.None select flow legal = legal
share_legal fans.One select flow legal = legal
share_legal fans.All select flow legal = legal
share_legal fans.Selected select flow legal = of_pid_legal select flow legal
