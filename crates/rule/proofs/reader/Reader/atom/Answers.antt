use Rattle.std.proofs.Common.{[], ◌∷◌, ◌++◌}
use Rattle.std.proofs.lemmas.Result.{err_from_is_err_and}
use Rattle.rule.proofs.Gathering.{begun, not_begun, begun_more, whole, no_part, no_table}
use Rattle.rule.proofs.reader.Reader.atom.Goals as goal

pub returns-in_default : goal.returns-in_default
returns-in_default c = rw c.place.ensures (no_table c.next_token-token.ensures c.in_default.not-Table)

pub returns-in_err-mark : goal.returns-in_err-mark
returns-in_err-mark c =
    let p = err_from_is_err_and c.from_residual.result c.from_residual.ensures.1 in
    rw (p.1, p.2) (not_begun c.in-Table.ensures _ c.in_err-mark.ensures)

pub loop-self-init : goal.loop-self-init
loop-self-init c = ([], rw (c.new-atom.ensures, c.from.ensures) (begun c.in-Table.ensures c.mark.new.self c.in_ok-mark.ensures))

pub loop-self-preserved : goal.loop-self-preserved
loop-self-preserved c = (
  c.loop-self.invariant.0 ++ (c.in_ok-term.field-0 ∷ []),
  rw c.push.ensures (begun_more c.loop-self.invariant.1 c.in_ok-term.ensures c.in-Comma.ensures),
)

pub returns-in-Close : goal.returns-in-Close
returns-in-Close c = rw c.push.ensures (whole c.loop-self.invariant.1 c.in_ok-term.ensures c.in-Close.ensures)

pub returns-in_default-next_token : goal.returns-in_default-next_token
returns-in_default-next_token c =
    let r = c.in_default-next_token in
    rw c.place-in_default-next_token.ensures (no_part c.loop-self.invariant.1 c.in_ok-term.ensures c.next_token.ensures r.not-Comma r.not-Close)
