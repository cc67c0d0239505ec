-- What the passes over the nodes make of the rows' values.
use Rattle.std.proofs.Common.{◌≡◌, ℕ, ◌<◌, List, length, get_or, sym, refl, ap, ◌∙◌, ap₂, arith}
use Rattle.std.proofs.lemmas.List.{get_or-map}
use Rattle.std.proofs.ByRecursion.{All-get_or}
use Rattle.scale.specs.Semirings.{Semiring}
use Rattle.tree.specs.Formulas.{Formula, row, under, rows, Distinct, Form, never, form, form_rows, form_holds, ReadOnce}
use Rattle.tree.specs.Worlds.{WorldSums}
use Rattle.tree.specs.Layout.{alone, spread, parts}
use Rattle.tree.specs.Chances.{bracket_under, bracket, form_bracket, sureness}
use Rattle.tree.specs.Passes.{Worked, weighing, means, EachSums, folded, form_folded, pair_under}
use Rattle.tree.proofs.Membership.{distinct_parts}
use Rattle.tree.proofs.Sums.{scored}
use Rattle.tree.proofs.Spreads.{all_spread}

-- each formula at a node of a form that names each row once does so too
once_parts : (F : Form) → ReadOnce F → (k : ℕ) → k < length (parts F) → Distinct (rows (get_or (parts F) k (row 0)))
once_parts never o k h = absurd (let z : ⊥ = omega arith in z)
once_parts (form f) o k h = All-get_or (λ g. Distinct (rows g)) (spread alone f) k (row 0) h
    (all_spread (λ g. Distinct (rows g)) (λ g. Distinct (rows g)) (λ r d. d) (λ j g i d. let (a, b, c) = distinct_parts (rows g) (rows i) d in (d, a, b)) alone f o)

module _ {V M : Type 0} (R : Semiring M) (mean : V → M) (ins outs : List V) where
  abbrev pub pair_leaf : ℕ → M × M
  pair_leaf r = ((weighing R mean ins outs).ins r, (weighing R mean ins outs).outs r)

  pub leaf_read : (r : ℕ) (a b : V) → r < length ins → r < length outs → a ≡ get_or ins r a → b ≡ get_or outs r b → means mean (a, b) ≡ pair_leaf r
  leaf_read r a b hi ho ra rb = ap₂ (λ x y. (x, y)) (ap mean ra ∙ sym (get_or-map mean ins r a R.nought hi)) (ap mean rb ∙ sym (get_or-map mean outs r b R.nought ho))

  -- the pairs that the pass works out are sums over worlds
  pub each_sums : (F : Form) → ReadOnce F → (ps : List (V × V)) → Worked (means mean) (folded pair_leaf (pair_under R)) (parts F) 0 ps → EachSums R (weighing R mean ins outs) mean (parts F) ps
  each_sums F o ps w k d h =
      let q = w k d (omega arith) h in
      let (a, b) = scored M R (weighing R mean ins outs) (get_or (parts F) k (row 0)) (once_parts F o k h) in
      (ap (λ p. p.0) q ∙ sym a, ap (λ p. p.1) q ∙ sym b)

  -- and so is the form's
  pub form_sums : (F : Form) → ReadOnce F → (p : V × V) → means mean p ≡ form_folded (R.nought, R.unit) pair_leaf (pair_under R) F → WorldSums R (weighing R mean ins outs) (form_rows F) (form_holds F) (means mean p)
  form_sums never o p e = (ap (λ q. q.0) e, ap (λ q. q.1) e)
  form_sums (form f) o p e = let (a, b) = scored M R (weighing R mean ins outs) f o in (ap (λ q. q.0) e ∙ sym a, ap (λ q. q.1) e ∙ sym b)

module _ (sure : List ℕ) where
  abbrev pub sure_leaf : ℕ → ℕ × ℕ
  sure_leaf r = (sureness sure r, sureness sure r)

  bracket_folded : (f : Formula) → folded sure_leaf bracket_under f ≡ bracket (sureness sure) f
  bracket_folded (row r) = refl
  bracket_folded (under k f g) = ap₂ (bracket_under k) (bracket_folded f) (bracket_folded g)

  -- the bracket that the pass works out is the form's
  pub form_brackets : (F : Form) → form_folded (0, 0) sure_leaf bracket_under F ≡ form_bracket (sureness sure) F
  form_brackets never = refl
  form_brackets (form f) = bracket_folded f
