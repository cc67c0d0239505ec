-- How many numbers pass a test. Assumes nothing.
use Rattle.std.proofs.Common.{◌≡◌, ℕ, zero, suc, ◌+◌, ◌*◌, ◌/◌, ◌%◌, ◌^◌, ◌<◌, ◌≤◌, Bool, true, false, cond, not, ◌&&◌, eqb, List, [], ◌∷◌, length, get_or, Some, sym, refl, ap, ◌∙◌, inl, inr, pow-suc, arith}
use lib.Count.{ones, ones_step}
use Rattle.std.specs.List.{sum_by}
use Rattle.std.proofs.lemmas.Bool.Decides.{nat_tests}
use Rattle.std.proofs.lemmas.Bool.{cases_eq, lt-ltb}
use Rattle.graph.specs.declared.sets.MemberSet.{MemberSet}
use Rattle.graph.specs.Members.{member, tally, TakesLowest}
use Rattle.std.specs.Int.{bit_at}
use Rattle.std.proofs.lemmas.Nat.Bits.{bit_at-suc, bit_at-lt}
use Rattle.graph.proofs.Bits.{has_bit, in_set, member_small}

-- one where the test is true
abbrev one_if : Bool → ℕ
one_if t = cond t 1 0

-- tests that agree below n pass as many
pub tally_same : (f g : ℕ → Bool) (n : ℕ) → ((j : ℕ) → j < n → f j ≡ g j) → tally f n ≡ tally g n
unfolding tally
tally_same f g zero h = refl
tally_same f g (suc n) h =
    let a = tally_same f g n (λ j k. h j (omega arith)) in
    let b = ap one_if (h n (omega arith)) in
    omega arith

-- no more than there are
pub tally_le : (f : ℕ → Bool) (n : ℕ) → tally f n ≤ n
unfolding tally
tally_le f zero = omega arith
tally_le f (suc n) = let r = tally_le f n in grind (arith, nat_tests)

-- what passes less passes no more
pub tally_mono : (f g : ℕ → Bool) (n : ℕ) → ((j : ℕ) → f j ≡ true → g j ≡ true) → tally f n ≤ tally g n
unfolding tally
tally_mono f g zero h = omega arith
tally_mono f g (suc n) h = let r = tally_mono f g n h in let at = h n in grind (arith, nat_tests)

-- and passes less where one number is lost
pub tally_less : (f g : ℕ → Bool) (x n : ℕ) → ((j : ℕ) → f j ≡ true → g j ≡ true) → x < n → f x ≡ false → g x ≡ true → tally f n < tally g n
unfolding tally
tally_less f g x zero h l no_x yes_x = absurd (omega arith)
tally_less f g x (suc n) h l no_x yes_x = elim (cases_eq x n) [
  | inl same ↦ (let r = tally_mono f g n h in grind (arith, nat_tests))
  | inr other ↦ (let r = tally_less f g x n h (omega arith) no_x yes_x in let at = h n in grind (arith, nat_tests))
]

-- the first of the numbers apart
tally_first : (f : ℕ → Bool) (n : ℕ) → tally f (suc n) ≡ cond (f 0) 1 0 + tally (λ j. f (suc j)) n
unfolding tally
tally_first f zero = refl
tally_first f (suc n) = let r = tally_first f n in omega arith

-- the first n numbers apart
tally_split : (f : ℕ → Bool) (m n : ℕ) → tally f (n + m) ≡ tally f m + tally (λ j. f (j + m)) n
unfolding tally
tally_split f m zero = let e : 0 + m ≡ m = omega arith in let r = ap (tally f) e in omega arith
tally_split f m (suc n) =
    let e : suc n + m ≡ suc (n + m) = omega arith in
    let r = tally_split f m n in
    let s = ap (tally f) e in
    omega arith

tally_nil : (f : ℕ → Bool) → tally f 0 ≡ 0
unfolding tally
tally_nil f = refl

-- the set bits of a word
pub tally_ones : (k word : ℕ) → word < 2 ^ k → tally (has_bit word) k ≡ ones word
unfolding ones
tally_ones zero word h = let e : word ≡ 0 = omega arith in tally_nil (has_bit word) ∙ sym (ap ones e)
tally_ones (suc k) word h =
    let r = tally_ones k (word / 2) (omega (arith, pow-suc 2 k)) in
    let first = tally_first (has_bit word) k in
    let rest = tally_same (λ j. has_bit word (suc j)) (has_bit (word / 2)) k (λ j _. ap (λ n. eqb n 1) (bit_at-suc word j)) in
    let step = ones_step word in
    let low = low_digit (bit_at word 0) (bit_at-lt word 0) in
    omega arith
  where
    low_digit : (d : ℕ) → d < 2 → cond (eqb d 1) 1 0 ≡ d
    low_digit zero h = refl
    low_digit (suc zero) h = refl
    low_digit (suc (suc d)) h = absurd (let z : ⊥ = omega arith in z)

-- no more than 64
pub ones_few : (word : ℕ) → word < 2 ^ 64 → ones word ≤ 64
ones_few word h = let few = tally_le (has_bit word) 64 in let is = tally_ones 64 word h in omega arith

-- number j of word i
in_word : (words : List ℕ) (i j k : ℕ) → k ≡ j + 64 * i → i < 4 → j < 64 → in_set words k ≡ has_bit (get_or words i 0) j
in_word words i j k e row l =
    let q : k / 64 ≡ i = omega arith in
    let m : k % 64 ≡ j = omega arith in
    rw (lt-ltb k 256 (omega arith)) (ap (λ r. has_bit (get_or words r 0) (k % 64)) q ∙ ap (has_bit (get_or words i 0)) m)

-- four words have as many numbers as set bits
pub tally_words : (words : List ℕ) → ((i : ℕ) → i < 4 → get_or words i 0 < 2 ^ 64) →
    tally (in_set words) 256 ≡ ones (get_or words 0 0) + ones (get_or words 1 0) + ones (get_or words 2 0) + ones (get_or words 3 0)
tally_words words small =
    let f : ℕ → Bool = in_set words in
    let s = word (λ j. j) 0 (omega arith) (λ j. omega arith) in
    let t = word (λ j. j + 64) 1 (omega arith) (λ j. omega arith) in
    let u = word (λ j. j + 64 + 64) 2 (omega arith) (λ j. omega arith) in
    let v = word (λ j. j + 64 + 64 + 64) 3 (omega arith) (λ j. omega arith) in
    let p = tally_split f 64 192 in
    let q = tally_split (λ j. f (j + 64)) 64 128 in
    let r = tally_split (λ j. f (j + 64 + 64)) 64 64 in
    omega arith
  where
    word : (place : ℕ → ℕ) (i : ℕ) → i < 4 → ((j : ℕ) → place j ≡ j + 64 * i) → tally (λ j. in_set words (place j)) 64 ≡ ones (get_or words i 0)
    word place i row e =
        tally_same (λ j. in_set words (place j)) (has_bit (get_or words i 0)) 64 (λ j l. in_word words i j (place j) (e j) row l)
        ∙ tally_ones 64 (get_or words i 0) (small i row)

-- the sum over a list of four
pub sum_four : (f : ℕ → ℕ) (xs : List ℕ) → length xs ≡ 4 → sum_by f xs ≡ f (get_or xs 0 0) + f (get_or xs 1 0) + f (get_or xs 2 0) + f (get_or xs 3 0)
sum_four f [] long = absurd (omega arith)
sum_four f (a ∷ []) long = absurd (omega arith)
sum_four f (a ∷ b ∷ []) long = absurd (omega arith)
sum_four f (a ∷ b ∷ c ∷ []) long = absurd (omega arith)
sum_four f (a ∷ b ∷ c ∷ d ∷ []) long = omega arith
sum_four f (a ∷ b ∷ c ∷ d ∷ e ∷ more) long = absurd (omega arith)

-- the same as the sum over the words
pub tally_sum : (words : List ℕ) → length words ≡ 4 → ((i : ℕ) → i < 4 → get_or words i 0 < 2 ^ 64) → sum_by ones words ≡ tally (in_set words) 256
tally_sum words long small = sum_four ones words long ∙ sym (tally_words words small)

-- a member set that loses one of its numbers is smaller
pub tally_removed : (f g : ℕ → Bool) (x : ℕ) → x < 256 → f x ≡ true → ((k : ℕ) → g k ≡ (f k && not (eqb k x))) → tally g 256 < tally f 256
tally_removed f g x l m is = tally_less g f x 256 (λ k t. grind (arith, is)) l (grind (arith, nat_tests, is)) m

pub taken_less : (s t : MemberSet) (x : ℕ) → TakesLowest (member s) (Some x) (member t) → tally (member t) 256 < tally (member s) 256
taken_less s t x h = tally_removed (member s) (member t) x (member_small s x h.0.0) h.0.0 h.1
