-- Rows in lists, and what a formula reads of a world.
use Rattle.std.proofs.Common.{◌≡◌, ℕ, true, false, eqb, ◌⊎◌, List, [], ◌∷◌, ◌++◌, refl, subst, ap₂, inl, inr}
use Rattle.std.proofs.lemmas.Bool.{eqb-true, eq-eqb, or_cases, or_left, or_right, cases_Bool, both_ways}
use Rattle.tree.specs.Formulas.{World, Formula, row, under, connect, holds, rows, has, Distinct}

-- the row is in the world
infix 40 ◌∈◌
abbrev pub ◌∈◌ : ℕ → World → Type 0
r ∈ w = w r ≡ true

-- the rows of a list and of a formula

abbrev pub Names : Formula → ℕ → Type 0
Names f r = r ∈ has (rows f)

-- the formulas share no row
abbrev pub Apart : Formula → Formula → Type 0
Apart f g = (r : ℕ) → Names f r → Names g r → ⊥

pub in_first : (r : ℕ) (xs : List ℕ) → r ∈ has (r ∷ xs)
in_first r xs = or_left (eqb r r) (has xs r) (eq-eqb r r refl)

pub in_left : (xs ys : List ℕ) (r : ℕ) → r ∈ has xs → r ∈ has (xs ++ ys)
in_left (x ∷ xs) ys r h = elim (or_cases (eqb r x) (has xs r) h) [ inl e ↦ or_left (eqb r x) (has (xs ++ ys) r) e | inr i ↦ or_right (eqb r x) (has (xs ++ ys) r) (in_left xs ys r i) ]
in_left [] ys r h = absurd (both_ways false refl h)

pub in_right : (xs ys : List ℕ) (r : ℕ) → r ∈ has ys → r ∈ has (xs ++ ys)
in_right [] ys r h = h
in_right (x ∷ xs) ys r h = or_right (eqb r x) (has (xs ++ ys) r) (in_right xs ys r h)

pub in_either : (xs ys : List ℕ) (r : ℕ) → r ∈ has (xs ++ ys) → (r ∈ has xs) ⊎ (r ∈ has ys)
in_either [] ys r h = inr h
in_either (x ∷ xs) ys r h = go (or_cases (eqb r x) (has (xs ++ ys) r) h) (in_either xs ys r)
  where
    go : (eqb r x ≡ true) ⊎ (r ∈ has (xs ++ ys)) → (r ∈ has (xs ++ ys) → (r ∈ has xs) ⊎ (r ∈ has ys)) → (r ∈ has (x ∷ xs)) ⊎ (r ∈ has ys)
    go (inl e) ih = inl (or_left (eqb r x) (has xs r) e)
    go (inr i) ih = elim (ih i) [ inl k ↦ inl (or_right (eqb r x) (has xs r) k) | inr k ↦ inr k ]

-- what is distinct end to end is distinct in each part, and the parts share no row
pub distinct_parts : (xs ys : List ℕ) → Distinct (xs ++ ys) → Distinct xs × Distinct ys × ((r : ℕ) → r ∈ has xs → r ∈ has ys → ⊥)
distinct_parts [] ys d = (tt, d, λ r h k. both_ways false refl h)
distinct_parts (x ∷ xs) ys d = go (distinct_parts xs ys d.1)
  where
    apart : has xs x ≡ false
    apart = elim (cases_Bool (has xs x)) [ inl i ↦ absurd (both_ways (has (xs ++ ys) x) d.0 (in_left xs ys x i)) | inr n ↦ n ]

    away : (r : ℕ) → r ≡ x → r ∈ has ys → ⊥
    away r e k = both_ways (has (xs ++ ys) x) d.0 (in_right xs ys x (subst (λ s. s ∈ has ys) e k))

    go : Distinct xs × Distinct ys × ((r : ℕ) → r ∈ has xs → r ∈ has ys → ⊥) → Distinct (x ∷ xs) × Distinct ys × ((r : ℕ) → r ∈ has (x ∷ xs) → r ∈ has ys → ⊥)
    go ih = ((apart, ih.0), ih.1, λ r h k. elim (or_cases (eqb r x) (has xs r) h) [ inl e ↦ away r (eqb-true r x e) k | inr i ↦ ih.2 r i k ])

-- a formula reads its own rows
pub agrees : (f : Formula) (u v : World) → ((r : ℕ) → Names f r → u r ≡ v r) → holds f u ≡ holds f v
agrees (row r) u v h = h r (in_first r [])
agrees (under k f g) u v h = ap₂ (connect k) (agrees f u v (λ r i. h r (in_left (rows f) (rows g) r i))) (agrees g u v (λ r i. h r (in_right (rows f) (rows g) r i)))
