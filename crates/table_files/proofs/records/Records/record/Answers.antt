use Rattle.std.proofs.Common.{◌≡◌, ℕ, refl, ◌+◌, ◌<◌, List, ◌∷◌, length, get_or, drop, ap, ◌∙◌, arith, rules}
use Rattle.std.proofs.lemmas.List.{drop_more}
use Rattle.table_files.specs.Grammar.{COMMA}
use Rattle.table_files.proofs.Walking.{going_first, going_more, going_found, comma_here, drop_least}
use Rattle.table_files.proofs.records.Records.record.Goals as goal

pub loop-self-init : goal.loop-self-init
loop-self-init c =
    let f = c.field-first.ensures in
    let t = f.text in
    let text = c.field-first.new.self.text.now in
    (f.text, rw (← f.start, ← f.end) (going_first text c.field-first.result _ (rw (f.end, f.start, f.text) f.ends) (omega (arith, f.start, f.end, f.moves)) refl refl refl))

pub loop-self-preserved : goal.loop-self-preserved
loop-self-preserved c =
    let f = c.field.ensures in
    let h = c.loop-self.invariant in
    let text = c.loop-self.self.text.now in
    let at = c.loop-self.self.at in
    let lt : at < length text = search rules in
    let comma : get_or text at 0 ≡ COMMA = search rules in (
      f.text ∙ h.0,
      rw (f.text, ← f.end) (going_more text _ at c.loop-self.record c.push.new.self c.field.result h.1 f.start (omega (arith, f.start, f.end, f.moves)) (rw (f.end, f.start) f.ends) c.push.ensures
          (drop_more text at 0 lt ∙ ap (λ b. b ∷ drop (at + 1) text) comma)),
    )

pub returns-clause-found : goal.returns-clause-found
returns-clause-found c = λ values records fl.
    let h = c.loop-self.invariant in
    let text = c.loop-self.self.text.now in
    let at = c.loop-self.self.at in
    let none : (t : List ℕ) → drop at text ≡ COMMA ∷ t → ⊥ = λ t e.
    let here = comma_here text at t e in
    let lt : at < length text = here.0 in
    let comma : get_or text at 0 ≡ COMMA = here.1 in
    search rules in
    going_found text _ at c.loop-self.record h.1 none c.min-self.result (drop_least text (at + 2) c.min-self.result (omega arith)) values records (rw (ap (λ t. t.now) h.0) fl)
