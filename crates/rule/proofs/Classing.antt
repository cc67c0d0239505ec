-- What a class says of its byte, and how many bytes of a class a text begins with.
use Rattle.std.proofs.Common.{◌≡◌, ℕ, ◌+◌, ◌<◌, ◌≤◌, true, false, eqb, List, [], ◌∷◌, length, get_or, take, drop, sym, ap, ◌∙◌, subst, one-add, arith}
use Rattle.std.specs.Str.Parse.{AllDigits}
use Rattle.std.proofs.lemmas.Str.{digit_value_digit}
use Rattle.std.proofs.lemmas.Bool.Decides.{nat_tests}
use Rattle.std.proofs.lemmas.Bool.{eqb-true, leb-true, and_parts, cond_both, cond-true, true≢false}
use Rattle.std.proofs.lemmas.List.{length-drop, get_or-drop, drop_more}
use Rattle.std.proofs.lemmas.List.Sums.{prefix_len_stops}
use Rattle.rule.specs.declared.tokens.Class.{Class}
use Rattle.rule.specs.declared.tokens.Class.TheVariants.{Blank, Name, Open, Close, Colon, Comma, Table, Variable, Digit, Other}
use Rattle.rule.specs.Classes as classes
use Rattle.rule.specs.Classes.{class, is, run_of}
use denote.Enum.Bare.{same_true, true_same, false_same}
use Rattle.rule.specs.contracts.tokens.Class.{the_type}

pub is_same : (c d : Class) → is c d ≡ true → c ≡ d
is_same c d = same_true the_type tt c d

pub same_is : (c d : Class) → c ≡ d → is c d ≡ true
same_is c d = true_same the_type c d

pub other_is : (c d : Class) → (c ≡ d → ⊥) → is c d ≡ false
other_is c d = false_same the_type tt c d

-- what a class says of its byte
abbrev pub Kind : Class → ℕ → Type 0
Kind Blank b = b ≡ 32
Kind Name b = b ≡ 81
Kind Open b = b ≡ 40
Kind Close b = b ≡ 41
Kind Colon b = b ≡ 58
Kind Comma b = b ≡ 44
Kind Table b = (65 ≤ b) × (b ≤ 72)
Kind Variable b = (97 ≤ b) × (b ≤ 122)
Kind Digit b = (48 ≤ b) × (b ≤ 57)
Kind Other b = Unit {0}

between_true : (low high b : ℕ) → classes.between low high b ≡ true → (low ≤ b) × (b ≤ high)
between_true low high b e = let h = and_parts _ _ e in (leb-true low b h.0, leb-true b high h.1)

kind : (b : ℕ) → Kind (class b) b
kind b =
    let P : Class → Type 0 = λ c. Kind c b in
    cond_both (eqb b 32) _ _ P (eqb-true b 32) λ _.
    cond_both (eqb b 81) _ _ P (eqb-true b 81) λ _.
    cond_both (eqb b 40) _ _ P (eqb-true b 40) λ _.
    cond_both (eqb b 41) _ _ P (eqb-true b 41) λ _.
    cond_both (eqb b 58) _ _ P (eqb-true b 58) λ _.
    cond_both (eqb b 44) _ _ P (eqb-true b 44) λ _.
    cond_both (classes.between 65 72 b) _ _ P (between_true 65 72 b) λ _.
    cond_both (classes.between 97 122 b) _ _ P (between_true 97 122 b) λ _.
    cond_both (classes.between 48 57 b) _ _ P (between_true 48 57 b) (λ _. tt)

pub kind_at : (c : Class) (b : ℕ) → class b ≡ c → Kind c b
kind_at c b e = subst (λ k. Kind k b) e (kind b)

pub kind_of : (c : Class) (b : ℕ) → is (class b) c ≡ true → Kind c b
kind_of c b e = kind_at c b (is_same (class b) c e)

-- the classes of letters and digits
module _ (b : ℕ) where
  pub table_class : 65 ≤ b → b ≤ 72 → class b ≡ Table
  table_class l h = grind (arith, nat_tests)

  pub variable_class : 97 ≤ b → b ≤ 122 → class b ≡ Variable
  variable_class l h = grind (arith, nat_tests)

  pub digit_class : 48 ≤ b → b ≤ 57 → class b ≡ Digit
  digit_class l h = grind (arith, nat_tests)

-- behind them comes none of it
pub run_stops : (c : Class) (text : List ℕ) (from r : ℕ) → r ≡ run_of c (drop from text) → from + r < length text
    → class (get_or text (from + r) 0) ≡ c → ⊥
run_stops c text from r h l e =
    let xs = drop from text in
    let n = length-drop from text in
    let stops = prefix_len_stops (λ b. is (class b) c) xs 0 (omega arith) in
    let same : class (get_or xs (run_of c xs) 0) ≡ c = ap (λ i. class (get_or xs i 0)) (sym h) ∙ (ap class (get_or-drop from text r 0) ∙ e) in
    true≢false (sym (same_is _ c same) ∙ stops)

-- digits are a numeral's
pub run_digits : (xs : List ℕ) → AllDigits 10 (take (run_of Digit xs) xs)
run_digits [] = tt
run_digits (b ∷ s) =
    cond_both (is (class b) Digit) (1 + run_of Digit s) 0 (λ n. AllDigits 10 (take n (b ∷ s)))
    (λ e.
    let k = kind_of Digit b e in
    let v = digit_value_digit b k in
    subst (λ n. AllDigits 10 (take n (b ∷ s))) (sym (one-add (run_of Digit s))) (omega arith, run_digits s))
    (λ _. tt)

-- there is one at least behind a byte of the class
pub run_some : (c : Class) (text : List ℕ) (at : ℕ) → at < length text → class (get_or text at 0) ≡ c → 0 < run_of c (drop at text)
run_some c text at l e =
    let f = ap (run_of c) (drop_more text at 0 l) ∙ cond-true _ (1 + run_of c (drop (at + 1) text)) 0 (same_is (class (get_or text at 0)) c e) in
    omega arith
