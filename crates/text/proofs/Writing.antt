-- Texts written one after the other are one text.
use Rattle.std.proofs.Common.{◌≡◌, ℕ, suc, ◌+◌, ◌-◌, ◌*◌, ◌^◌, ◌<◌, ◌≤◌, List, [], ◌∷◌, ◌++◌, length, get_or, set, take, drop, decimal, sym, refl, ap, ◌∙◌, ap₂, append_assoc, append-nil, add-zero, add-one, drop-cons, arith, length-append, take-append-drop}
use Rattle.std.proofs.Math.ListN.{drop_of_length-le}
use lib.Seq.{paste}
use borrow.Rule.Slice.PartMut.{put_mid}
use Rattle.std.proofs.lemmas.List.{set_split}
use Rattle.std.proofs.lemmas.Slice.{put_mid-paste, first_rest}
use Rattle.std.proofs.lemmas.List.Edits.{paste_all, paste-paste}
use Rattle.std.proofs.lemmas.Fmt.{length-decimal-le}
use Rattle.text.specs.Over.{over, numbers_text}
use Rattle.text.specs.Writers.{room_of}
use Rattle.text.specs.Writers as writers
use Rattle.text.specs.declared.Writer.{Writer}

over_paste : (out : List ℕ) (at : ℕ) (s : List ℕ) → over out at s ≡ paste out at s (length s)
over_paste out at s = sym (paste_all out at s (length s) refl)

-- a text written just after another
pub over_over : (out : List ℕ) (at : ℕ) (s t : List ℕ) → at ≤ length out → over (over out at s) (at + length s) t ≡ over out at (s ++ t)
over_over out at s t h =
    over_paste (over out at s) (at + length s) t
    ∙ ap (λ x. paste x (at + length s) t (length t)) (over_paste out at s)
    ∙ paste-paste out at s t (length s) (length t) refl refl h
    ∙ ap (paste out at (s ++ t)) (sym (length-append s t))
    ∙ sym (over_paste out at (s ++ t))

-- a part of the memory replaced by bytes of its length
pub copied : (out part bytes : List ℕ) (at k : ℕ) → part ≡ bytes → length bytes ≡ k → put_mid at k out part ≡ over out at bytes
copied out part bytes at k e l =
    put_mid-paste at k out part bytes k e refl (sym l)
    ∙ paste_all out at bytes k (sym l)
    ∙ ap (λ n. take at out ++ (bytes ++ drop (at + n) out)) (sym l)

-- the same over the memory and the place as they were after the first text
pub then : (out out' out'' : List ℕ) (at at' : ℕ) (s t : List ℕ) → at ≤ length out → out' ≡ over out at s → at' ≡ at + length s → out'' ≡ over out' at' t → out'' ≡ over out at (s ++ t)
then out out' out'' at at' s t h e f g = g ∙ ap₂ (λ x n. over x n t) e f ∙ over_over out at s t h

-- a text was written into memory from a place on, and ends at another
pub record Wrote (before : List ℕ) (at : ℕ) (s : List ℕ) (out : List ℕ) (end : ℕ) : Type 0 where
  pub bytes : out ≡ over before at s
  pub place : end ≡ at + length s

pub wrote_none : (before : List ℕ) (at : ℕ) → at ≤ length before → Wrote before at [] before at
wrote_none before at l =
    record { bytes = sym (ap (λ n. take at before ++ drop n before) (add-zero at) ∙ take-append-drop at before); place = sym (add-zero at) }

-- a text written behind it
pub wrote_more : (before : List ℕ) (at : ℕ) (s out : List ℕ) (end : ℕ) (t out' : List ℕ) (end' : ℕ) → at ≤ length before → Wrote before at s out end →
    out' ≡ over out end t → end' ≡ end + length t → Wrote before at (s ++ t) out' end'
wrote_more before at s out end t out' end' l h e f =
    record {
      bytes = then before out out' at end s t l h.bytes h.place e;
      place = omega (arith, h.place, length-append s t);
    }

-- a byte written is a text of one byte
pub byte_over : (out : List ℕ) (at x : ℕ) → at < length out → set out at x ≡ over out at (x ∷ [])
byte_over out at x h = set_split out at x h ∙ ap (λ n. take at out ++ (x ∷ drop n out)) (sym (add-one at))

-- a number of 64 bits takes at most 20 digits, and with a byte behind it 21
pub digits_short : (n : ℕ) → n < 2 ^ 64 → length (decimal n) ≤ 20
digits_short n h = length-decimal-le 20 n (omega arith) (omega arith) h

pub numbers_short : (gap : ℕ) (ns : List ℕ) → ((i : ℕ) → i < length ns → get_or ns i 0 < 2 ^ 64) → length (numbers_text gap ns) ≤ 21 * length ns
numbers_short gap [] h = omega arith
numbers_short gap (n ∷ []) h = omega (arith, digits_short n (h 0 (omega arith)))
numbers_short gap (n ∷ m ∷ ns) h =
    let rest = numbers_short gap (m ∷ ns) (λ i l. h (suc i) (omega arith)) in
    omega (arith, length-append (decimal n) (gap ∷ numbers_text gap (m ∷ ns)), digits_short n (h 0 (omega arith)))

-- two texts, one behind the other
pub wrote_both : {a b c : Writer} {s t : List ℕ} → writers.Wrote a b s → writers.Wrote b c t → a.at ≤ room_of a → writers.Wrote a c (s ++ t)
wrote_both {a} {b} {c} {s} {t} f g l =
    record {
      memory = g.memory ∙ f.memory;
      room = g.room ∙ f.room;
      bytes = then a.out.now b.out.now c.out.now a.at b.at s t l f.bytes f.place g.bytes;
      place = omega (arith, f.place, g.place, length-append s t);
    }

-- an equal text
pub wrote_as : {a b : Writer} {s t : List ℕ} → s ≡ t → writers.Wrote a b s → writers.Wrote a b t
wrote_as {a} {b} e w = rw (← e) w

-- numbers in decimal digits, each with a byte before it
abbrev pub behind : (gap : ℕ) → List ℕ → List ℕ
behind gap [] = []
behind gap (n ∷ ns) = gap ∷ (decimal n ++ behind gap ns)

pub numbers_text-behind : (gap n : ℕ) (ns : List ℕ) → numbers_text gap (n ∷ ns) ≡ decimal n ++ behind gap ns
numbers_text-behind gap n [] = sym (append-nil (decimal n))
numbers_text-behind gap n (m ∷ ns) = ap (λ x. decimal n ++ (gap ∷ x)) (numbers_text-behind gap m ns)

-- of the text of some numbers the first is written, and of the rest those before a place
pub record Begun (gap : ℕ) (numbers rest : List ℕ) (i : ℕ) (start now : Writer) : Type 0 where
  pub done : List ℕ
  pub wrote : writers.Wrote start now done
  pub left : numbers_text gap numbers ≡ done ++ behind gap (drop i rest)

first_left : (gap : ℕ) (numbers : List ℕ) → 0 < length numbers
    → numbers_text gap numbers ≡ decimal (get_or numbers 0 0) ++ behind gap (take (length numbers - 1) (drop 1 numbers))
first_left gap numbers h = ap (numbers_text gap) (first_rest numbers 0 h) ∙ numbers_text-behind gap _ _

pub first_room : (gap : ℕ) (numbers : List ℕ) (start : Writer) → 0 < length numbers → start.at + length (numbers_text gap numbers) ≤ room_of start
    → start.at + length (decimal (get_or numbers 0 0)) ≤ room_of start
first_room gap numbers start h r =
    omega (arith, ap length (first_left gap numbers h), length-append (decimal (get_or numbers 0 0)) (behind gap (take (length numbers - 1) (drop 1 numbers))), r)

pub begun_first : {gap : ℕ} {numbers : List ℕ} {start now : Writer} → 0 < length numbers → writers.Wrote start now (decimal (get_or numbers 0 0))
    → Begun gap numbers (take (length numbers - 1) (drop 1 numbers)) 0 start now
begun_first {gap} {numbers} h w = record {
  done = decimal (get_or numbers 0 0);
  wrote = w;
  left = first_left gap numbers h;
}

-- the next number, with the byte before it
next_left : (gap : ℕ) (numbers rest done : List ℕ) (i : ℕ) → numbers_text gap numbers ≡ done ++ behind gap (drop i rest) → i < length rest
    → numbers_text gap numbers ≡ (done ++ (gap ∷ decimal (get_or rest i 0))) ++ behind gap (drop (i + 1) rest)
next_left gap numbers rest done i e h =
    e ∙ ap (λ xs. done ++ behind gap xs) (drop-cons rest i 0 h ∙ ap (λ k. get_or rest i 0 ∷ drop k rest) (sym (add-one i)))
    ∙ sym (append_assoc done (gap ∷ decimal (get_or rest i 0)) (behind gap (drop (i + 1) rest)))

pub begun_room : {gap : ℕ} {numbers rest : List ℕ} {i : ℕ} {start now : Writer} → Begun gap numbers rest i start now → i < length rest
    → start.at + length (numbers_text gap numbers) ≤ room_of start → now.at + (1 + length (decimal (get_or rest i 0))) ≤ room_of now
begun_room {gap} {numbers} {rest} {i} b h r =
    let e = ap length (next_left gap numbers rest b.done i b.left h) in
    omega (arith, e, b.wrote.place, b.wrote.room, length-append (b.done ++ (gap ∷ decimal (get_or rest i 0))) (behind gap (drop (i + 1) rest)), length-append b.done (gap ∷ decimal (get_or rest i 0)), r)

pub begun_more : {gap : ℕ} {numbers rest : List ℕ} {i : ℕ} {start now mid next : Writer} → Begun gap numbers rest i start now → i < length rest
    → writers.Wrote now mid (gap ∷ []) → writers.Wrote mid next (decimal (get_or rest i 0)) → start.at + length (numbers_text gap numbers) ≤ room_of start
    → Begun gap numbers rest (i + 1) start next
begun_more {gap} {numbers} {rest} {i} b h f g r =
    let k = begun_room b h r in
    record {
      done = b.done ++ (gap ∷ decimal (get_or rest i 0));
      wrote = wrote_both b.wrote (wrote_both f g (omega arith)) (omega arith);
      left = next_left gap numbers rest b.done i b.left h;
    }

pub begun_all : {gap : ℕ} {numbers rest : List ℕ} {i : ℕ} {start now : Writer} → Begun gap numbers rest i start now → length rest ≤ i → writers.Wrote start now (numbers_text gap numbers)
begun_all {gap} {numbers} {rest} {i} b h =
    wrote_as (sym (b.left ∙ ap (λ xs. b.done ++ behind gap xs) (drop_of_length-le rest h) ∙ append-nil b.done)) b.wrote
