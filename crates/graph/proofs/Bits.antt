-- The bits of words, and what four words have. Assumes nothing.
use Rattle.std.proofs.Common.{◌≡◌, ℕ, zero, suc, ◌+◌, ◌-◌, ◌*◌, ◌/◌, ◌%◌, ◌^◌, ◌<◌, min, max, Bool, true, false, not, ◌&&◌, ◌||◌, eqb, ltb, List, length, get_or, set, Some, sym, refl, ap, ◌∙◌, inl, inr, ⊎_elim, arith, get_or-set_other, get_or-set_same}
use Rattle.std.specs.Int.{bit_at, trailing_zeros, w64}
use Rattle.std.specs.Int.RustNames.{bit_and, bit_or}
use Rattle.std.proofs.lemmas.Nat.{one_shl}
use Rattle.std.proofs.lemmas.Nat.Bits.{bit_at-lt, bit_at-zero, bit_at_and, bit_at_or, bit_at_not, bit_at-pow_same, bit_at-pow_other, bit_at_ones, bit_at_ones_above, bit_at-trailing_zeros}
use Rattle.std.proofs.lemmas.Bool.{eq-eqb, ne_eqb, lt-ltb, le-ltb, ltb-true, cases_eq, cases_lt, cases_Bool, both_ways, and_parts}
use Rattle.std.proofs.lemmas.Bool.Decides.{nat_tests}
use Rattle.graph.specs.declared.sets.MemberSet.{MemberSet}
use Rattle.graph.specs.Members.{in_words, member, Lowest}

-- whether bit j is set
abbrev pub has_bit : ℕ → ℕ → Bool
has_bit word j = eqb (bit_at word j) 1

or_eqb : (b c : ℕ) → b < 2 → c < 2 → eqb (max b c) 1 ≡ (eqb b 1 || eqb c 1)
or_eqb b c h k = grind (arith, nat_tests)

and_eqb : (b c : ℕ) → b < 2 → c < 2 → eqb (min b c) 1 ≡ (eqb b 1 && eqb c 1)
and_eqb b c h k = grind (arith, nat_tests)

not_eqb : (c : ℕ) → c < 2 → eqb (1 - c) 1 ≡ not (eqb c 1)
not_eqb c h = grind (arith, nat_tests)

pub word_or : (a b j : ℕ) → has_bit (bit_or a b) j ≡ (has_bit a j || has_bit b j)
word_or a b j = ap (λ n. eqb n 1) (bit_at_or a b j) ∙ or_eqb _ _ (bit_at-lt a j) (bit_at-lt b j)

pub word_and : (a b j : ℕ) → has_bit (bit_and a b) j ≡ (has_bit a j && has_bit b j)
word_and a b j = ap (λ n. eqb n 1) (bit_at_and a b j) ∙ and_eqb _ _ (bit_at-lt a j) (bit_at-lt b j)

pub word_without : (a b j : ℕ) → b < 2 ^ 64 → j < 64 → has_bit (bit_and a (18446744073709551615 - b)) j ≡ (has_bit a j && not (has_bit b j))
word_without a b j h k =
    word_and a (18446744073709551615 - b) j
    ∙ ap (λ z. has_bit a j && z) (ap (λ n. eqb n 1) (bit_at_not w64 b j h k) ∙ not_eqb _ (bit_at-lt b j))

-- `1 << i` at 64 bits
pub word_one : (i j : ℕ) → i < 64 → has_bit ((1 * 2 ^ i) % 18446744073709551616) j ≡ eqb j i
word_one i j h =
    ap (λ n. has_bit n j) (one_shl i 64 h)
    ∙ ⊎_elim (λ e. rw e (ap (λ n. eqb n 1) (bit_at-pow_same i) ∙ sym (eq-eqb i i refl)))
    (λ ne. ap (λ n. eqb n 1) (bit_at-pow_other i j ne) ∙ sym (ne_eqb j i ne)) (cases_eq j i)

-- a word with its lowest n bits set
pub word_low : (n j : ℕ) → has_bit (2 ^ n - 1) j ≡ ltb j n
word_low n j = elim (cases_lt j n) [
  | inl l ↦ ap (λ b. eqb b 1) (bit_at_ones n j l) ∙ sym (lt-ltb j n l)
  | inr g ↦ ap (λ b. eqb b 1) (bit_at_ones_above n j g) ∙ sym (le-ltb j n g)
]

eqb_same : (a b c d : ℕ) → (a ≡ b → c ≡ d) → (c ≡ d → a ≡ b) → eqb a b ≡ eqb c d
eqb_same a b c d f g = grind (arith, nat_tests)

-- what the words have, as far as the numbers below 256 go
abbrev pub in_set : List ℕ → ℕ → Bool
in_set words k = ltb k 256 && in_words words k

-- below 256 a fact about the words is one about the set
pub within : (op : Bool → Bool → Bool) → op false false ≡ false → (k : ℕ) (x y z : Bool) → (k < 256 → x ≡ op y z) →
    (ltb k 256 && x) ≡ op (ltb k 256 && y) (ltb k 256 && z)
within op none k x y z at = elim (cases_Bool (ltb k 256)) [
  | inl t ↦ rw t (at (ltb-true k 256 t))
  | inr f ↦ rw f (sym none)
]

-- words that are made of the words of two sets, place by place and bit by bit
pub by_words : (op : Bool → Bool → Bool) (word : ℕ → ℕ → ℕ) → op false false ≡ false →
    ((x y j : ℕ) → y < 2 ^ 64 → j < 64 → has_bit (word x y) j ≡ op (has_bit x j) (has_bit y j)) → (a b made : List ℕ) →
    ((i : ℕ) → i < 4 → get_or b i 0 < 2 ^ 64) → ((i : ℕ) → i < 4 → get_or made i 0 ≡ word (get_or a i 0) (get_or b i 0)) →
    (k : ℕ) → in_set made k ≡ op (in_set a k) (in_set b k)
by_words op word none bits a b made small is k = within op none k _ _ _
    (λ h. let row : k / 64 < 4 = omega arith in ap (λ n. has_bit n (k % 64)) (is (k / 64) row) ∙ bits _ _ (k % 64) (small (k / 64) row) (omega arith))

-- word k / 64 is replaced by one that differs at most in bit k % 64
pub changed : (op : Bool → Bool → Bool) → ((x : Bool) → op x false ≡ x) → (words : List ℕ) (k j word : ℕ) → k < 256 → k / 64 < length words →
    ((i : ℕ) → i < 64 → has_bit word i ≡ op (has_bit (get_or words (k / 64) 0) i) (eqb i (k % 64))) →
    in_set (set words (k / 64) word) j ≡ op (in_set words j) (eqb j k)
changed op keeps words k j word small h at = elim (cases_Bool (ltb j 256)) [
  | inl t ↦ rw t here
  | inr f ↦ rw f (sym (ap (op false) (ne_eqb j k (λ e. both_ways _ f (lt-ltb j 256 (omega arith)))) ∙ keeps false))
]
  where
    here : in_words (set words (k / 64) word) j ≡ op (in_words words j) (eqb j k)
    here =
        ⊎_elim
        (λ e. ap (λ q. has_bit (get_or (set words (k / 64) word) q 0) (j % 64)) e ∙ ap (λ n. has_bit n (j % 64)) (get_or-set_same words (k / 64) word 0 h)
        ∙ at (j % 64) (omega arith) ∙ ap (λ q. op (has_bit (get_or words q 0) (j % 64)) (eqb (j % 64) (k % 64))) (sym e)
        ∙ ap (op (in_words words j)) (eqb_same (j % 64) (k % 64) j k (λ m. omega arith) (λ m. omega arith)))
        (λ ne. ap (λ n. has_bit n (j % 64)) (get_or-set_other words (k / 64) (j / 64) word 0 ne)
        ∙ sym (keeps (in_words words j)) ∙ ap (op (in_words words j)) (sym (ne_eqb j k (λ m. ne (omega arith)))))
        (cases_eq (j / 64) (k / 64))

pub or_keeps : (x : Bool) → (x || false) ≡ x
or_keeps x = grind arith

pub without_keeps : (x : Bool) → (x && not false) ≡ x
without_keeps x = grind arith

-- what holds of four places
pub four : (P : ℕ → Type 0) → P 0 → P 1 → P 2 → P 3 → (q : ℕ) → q < 4 → P q
four P a b c d zero h = a
four P a b c d (suc zero) h = b
four P a b c d (suc (suc zero)) h = c
four P a b c d (suc (suc (suc zero))) h = d
four P a b c d (suc (suc (suc (suc q)))) h = absurd (let z : ⊥ = omega arith in z)

-- four words that have just the numbers below the end
pub below_end : (words : List ℕ) (end k : ℕ) → ((q : ℕ) → q < 4 → (j : ℕ) → j < 64 → has_bit (get_or words q 0) j ≡ ltb j (end - 64 * q)) →
    in_set words k ≡ (ltb k 256 && ltb k end)
below_end words end k at = within (λ x _. x) refl k (in_words words k) (ltb k end) true
    (λ h. at (k / 64) (omega arith) (k % 64) (omega arith) ∙ carried (k % 64) (k / 64) k (omega arith))
  where
    carried : (j q n : ℕ) → n ≡ j + 64 * q → ltb j (end - 64 * q) ≡ ltb n end
    carried j q n e = grind (arith, nat_tests)

-- words of 0 have nothing
pub none_in : (words : List ℕ) (k : ℕ) → (k < 256 → get_or words (k / 64) 0 ≡ 0) → in_set words k ≡ false
none_in words k e = elim (cases_Bool (ltb k 256)) [
  | inl t ↦ rw t (ap (λ n. has_bit n (k % 64)) (e (ltb-true k 256 t)) ∙ ap (λ n. eqb n 1) (bit_at-zero (k % 64)))
  | inr f ↦ rw f
]

-- the lowest number, in the first word that is not 0
pub lowest_some : (words : List ℕ) (i : ℕ) → i < 4 → 0 < get_or words i 0 → get_or words i 0 < 2 ^ 64 → ((q : ℕ) → q < i → get_or words q 0 ≡ 0) →
    Lowest (in_set words) (Some (64 * i + trailing_zeros w64 (get_or words i 0)))
lowest_some words i row some small none =
    let w = get_or words i 0 in
    let t = trailing_zeros w64 w in
    let r = bit_at-trailing_zeros w64 w some small in
    let q : (64 * i + t) / 64 ≡ i = omega (arith, r.0) in
    let m : (64 * i + t) % 64 ≡ t = omega (arith, r.0) in (
      rw (lt-ltb (64 * i + t) 256 (omega (arith, r.0))) (ap (λ z. has_bit (get_or words z 0) ((64 * i + t) % 64)) q ∙ ap (has_bit w) m ∙ ap (λ n. eqb n 1) r.1),
      λ j h. ⊎_elim (λ l. none_in words j (λ _. none (j / 64) l))
          (λ g. let e : j / 64 ≡ i = omega (arith, r.0) in rw (lt-ltb j 256 (omega (arith, r.0)))
          (ap (λ z. has_bit (get_or words z 0) (j % 64)) e ∙ ap (λ n. eqb n 1) (r.2 (j % 64) (omega arith))))
          (cases_lt (j / 64) i),
    )

-- a set has no number from 256 on
pub member_small : (s : MemberSet) (k : ℕ) → member s k ≡ true → k < 256
unfolding member
member_small s k m = ltb-true k 256 (and_parts _ _ m).0
