-- The finite set of a test as a list, whose order and repeats say nothing. Assumes nothing.
use Rattle.std.proofs.Common.{◌≡◌, ℕ, zero, suc, ◌<◌, Bool, true, cond, ◌⊎◌, List, [], ◌∷◌, refl, subst, inl, inr, arith}
use Rattle.std.proofs.lemmas.Bool.{cond_both, cases_eq}

infix 4 ◌∈◌
-- x is in the list
abbrev pub ◌∈◌ : ℕ → List ℕ → Type 0
x ∈ [] = ⊥
x ∈ (y ∷ ys) = (x ≡ y) ⊎ (x ∈ ys)

-- the numbers below n that pass
pub listed : (ℕ → Bool) → ℕ → List ℕ
listed test zero = []
listed test (suc n) = cond (test n) (n ∷ listed test n) (listed test n)

pub in_listed : (test : ℕ → Bool) (x n : ℕ) → x < n → test x ≡ true → x ∈ listed test n
unfolding listed
in_listed test x zero h t = absurd (let z : ⊥ = omega arith in z)
in_listed test x (suc n) h t = elim (cases_eq x n) [
  | inl e ↦ rw (← e, t) (inl refl)
  | inr ne ↦ (let below = in_listed test x n (omega arith) t in
      cond_both (test n) (n ∷ listed test n) (listed test n) (λ ys. x ∈ ys) (λ _. inr below) (λ _. below))
]

pub listed_in : (test : ℕ → Bool) (x n : ℕ) → x ∈ listed test n → test x ≡ true
unfolding listed
listed_in test x zero m = absurd m
listed_in test x (suc n) m =
    cond_both (test n) (n ∷ listed test n) (listed test n) (λ ys. x ∈ ys → test x ≡ true)
    (λ t m. elim m [ inl e ↦ rw e t | inr k ↦ listed_in test x n k ]) (λ _ k. listed_in test x n k) m

-- one of the list with P, or none: where each can be decided, so can the list
pub seek : (P : ℕ → Type 0) → ((x : ℕ) → Dec (P x)) → (xs : List ℕ) → Dec ((x : ℕ) × (x ∈ xs) × P x)
seek P decide [] = no (λ t. t.1)
seek P decide (v ∷ vs) = go (decide v) (seek P decide vs)
  where
    go : Dec (P v) → Dec ((x : ℕ) × (x ∈ vs) × P x) → Dec ((x : ℕ) × (x ∈ (v ∷ vs)) × P x)
    go (yes p) r = yes (v, inl refl, p)
    go (no n) (yes t) = yes (t.0, inr t.1, t.2)
    go (no n) (no none) = no (λ t. elim t.1 [ inl e ↦ n (subst P e t.2) | inr m ↦ none (t.0, m, t.2) ])
