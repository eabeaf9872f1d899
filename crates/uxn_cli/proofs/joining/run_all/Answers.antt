use Rattle.uxn_cli.proofs.Clauses.Works.Changes.Names.{◌≡◌, ℕ, rules, false, Result, Ok, Err, IfOk, is_err, SinkEnded, SinkState, Failed, IsUnderWay}
use Rattle.uxn_cli.proofs.Clauses.Works.Changes.Names.{LineGoesOn, LineHasDone, line_bytes, line_exit, LineOf, LineJob}
use Rattle.uxn_cli.proofs.joining.run_all.Goals as goal

-- what is done behind turns
done-after : (line line_now : LineOf) (out out_now out_end : SinkState) (result : Result ℕ Failed) → LineGoesOn line out line_now out_now false
    → ((job : LineJob) (begun : SinkState) → IsUnderWay job begun line_now out_now → SinkEnded (line_bytes job) (is_err result) begun out_end)
    → IfOk result (λ code. (job : LineJob) (begun : SinkState) → IsUnderWay job begun line_now out_now → code ≡ line_exit job)
    → LineHasDone line out out_end result
done-after line line_now out out_now out_end (Ok code) goes put is =
    λ job begun under. (put job begun (goes job begun under), is job begun (goes job begun under))
done-after line line_now out out_now out_end (Err failed) goes put is = λ job begun under. (put job begun (goes job begun under), tt)

pub returns-in_err-follow : goal.returns-in_err-follow
returns-in_err-follow g c =
    let result : c.from_residual.result ≡ Err c.in_err-follow.field-0.0 = search rules in
    rw result (record { done = λ job begun under. (c.in_err-follow.ensures.way job begun under, tt) })

pub returns : goal.returns
returns g c = record { done = done-after _ _ _ _ _ c.finish.result c.in_ok-follow.ensures.way c.finish.ensures.put c.finish.ensures.code }
