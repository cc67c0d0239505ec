-- The bracket worked out on a formula lies round its chance.
use Rattle.std.proofs.Common.{◌≡◌, ℕ, ◌+◌, ◌-◌, ◌*◌, ◌^◌, ◌≤◌, List, ◌++◌, length, sym, ap, ◌∙◌, subst, ap₂, add-mul, mul-add, arith, length-append, pow-add}
use native.Mathlib.Nat.{add-sub_cancel_left}
use Rattle.tree.specs.declared.Kind.TheVariants.{And, Or}
use Rattle.tree.specs.declared.Node.{Node}
use Rattle.tree.specs.Formulas.{Formula, row, under, rows, Form, never, form, ReadOnce}
use Rattle.tree.specs.Layout.{laid}
use Rattle.tree.specs.Chances.{whole, Between, numbers, odds, bracket, form_bracket, sureness, Near}
use Rattle.tree.proofs.Sums.{scores, scored}
use Rattle.tree.proofs.Shares.{and_between, or_between}

product : (h n i m : ℕ) → (h + n) * (i + m) ≡ (h * i + h * m) + (n * i + n * m)
product h n i m = add-mul h n (i + m) ∙ ap₂ ◌+◌ (mul-add h i m) (mul-add n i m)

power : (f g : Formula) → whole ^ length (rows f) * whole ^ length (rows g) ≡ whole ^ length (rows f ++ rows g)
power f g = sym (ap (λ k. whole ^ k) (length-append (rows f) (rows g)) ∙ pow-add whole (length (rows f)) (length (rows g)))

-- what is left of both failing, in the terms of the pass
rest : (h n i m d e : ℕ) → h + n ≡ d → i + m ≡ e → d * e - (d - h) * (e - i) ≡ h * m + (n * i + h * i)
rest h n i m d e p q = rw (← p, ← q, add-sub_cancel_left h n, add-sub_cancel_left i m) (omega (arith, product h n i m))

widths : (f g : Formula) (x y z : ℕ) → z ≤ x + y + 1 → x + 1 ≤ length (rows f) → y + 1 ≤ length (rows g) → z + 1 ≤ length (rows f ++ rows g)
widths f g x y z w p q = rw (length-append (rows f) (rows g)) (omega arith)

module _ (c : ℕ → ℕ) (small : (r : ℕ) → c r ≤ whole) where
  abbrev held : Formula → ℕ
  held f = (scores numbers (odds c) f).0

  abbrev failed : Formula → ℕ
  failed f = (scores numbers (odds c) f).1

  -- a formula holds or fails
  either_way : (f : Formula) → held f + failed f ≡ whole ^ length (rows f)
  unfolding numbers
  either_way (row r) = let k = small r in omega arith
  either_way (under And f g) = omega (arith, product (held f) (failed f) (held g) (failed g), ap₂ ◌*◌ (either_way f) (either_way g) ∙ power f g)
  either_way (under Or f g) = omega (arith, product (held f) (failed f) (held g) (failed g), ap₂ ◌*◌ (either_way f) (either_way g) ∙ power f g)

  bracketed : (f : Formula) → Between (bracket c f).0 (bracket c f).1 (held f) (whole ^ length (rows f)) × ((bracket c f).1 - (bracket c f).0 + 1 ≤ length (rows f))
  unfolding numbers
  bracketed (row r) = let k = small r in (record { ordered = omega arith; small = k; under = omega arith; over = omega arith }, omega arith)
  bracketed (under And f g) =
      let (B, w) = bracketed f in
      let (B', w') = bracketed g in
      let (C, v) = and_between _ _ _ _ _ _ _ _ B B' in
      (rw (← (power f g)) C, widths f g _ _ _ v w w')
  bracketed (under Or f g) =
      let (B, w) = bracketed f in
      let (B', w') = bracketed g in
      let (C, v) = or_between _ _ _ _ _ _ _ _ B B' in
      (rw (← (power f g), ← (rest (held f) (failed f) (held g) (failed g) _ _ (either_way f) (either_way g))) C, widths f g _ _ _ v w w')

near : (c : ℕ → ℕ) → ((r : ℕ) → c r ≤ whole) → (F : Form) → ReadOnce F → Near c F (form_bracket c F)
unfolding numbers
near c small never once = (record { ordered = omega arith; small = omega arith; under = omega arith; over = omega arith }, omega arith)
near c small (form f) once =
    let (B, w) = bracketed c small f in
    (rw (scored ℕ numbers (odds c) f once).0 B, omega arith)

sure_whole : (sure : List ℕ) (r : ℕ) → sureness sure r ≤ whole
sure_whole sure r = omega arith

-- what is the bracket of each form laid out lies near its chance
pub nears : (sure : List ℕ) (ns : List Node) (p : ℕ × ℕ) → ((F : Form) → ns ≡ laid F → p ≡ form_bracket (sureness sure) F) → (F : Form) → ns ≡ laid F → ReadOnce F → Near (sureness sure) F p
nears sure ns p e F l once = subst (Near (sureness sure) F) (sym (e F l)) (near (sureness sure) (sure_whole sure) F once)
