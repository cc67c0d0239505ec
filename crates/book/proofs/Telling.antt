-- The record of a refusal, piece by piece.
use Rattle.std.proofs.Common.{◌≡◌, ℕ, ◌≤◌, List, [], ◌∷◌, ◌++◌, map, codes, decimal, sym, ap, ◌∙◌, append_assoc}
use Rattle.text.specs.Writers.{Wrote, room_of}
use Rattle.text.specs.declared.Writer.{Writer}
use Rattle.text.proofs.Writing.{wrote_both, wrote_as}
use Rattle.book.specs.Refusals.{Told, refusal_text, spaced}

-- the pieces in the order in which they are written
abbrev pieces : ℕ → ℕ → ℕ → List ℕ
pieces n p q = (((((codes "refusal,places\r\n" ++ decimal n) ++ (44 ∷ [])) ++ decimal p) ++ (32 ∷ [])) ++ decimal q) ++ (13 ∷ 10 ∷ [])

-- the record, from its two numbers on
abbrev below : ℕ → List ℕ → List ℕ
below n places = codes "refusal,places" ++ (13 ∷ 10 ∷ (decimal n ++ (44 ∷ places)))

pieces_join : (t : Told) (n p q : ℕ) → n ≡ t.number → t.places ≡ p ∷ q ∷ [] → pieces n p q ≡ refusal_text t
pieces_join t n p q e f =
    simp append_assoc
    (ap (λ k. below k (decimal p ++ (32 ∷ (decimal q ++ (13 ∷ 10 ∷ []))))) e
    ∙ ap (below t.number) (sym (append_assoc (decimal p) (32 ∷ decimal q) (13 ∷ 10 ∷ [])))
    ∙ ap (λ ps. below t.number (spaced (map decimal ps) ++ (13 ∷ 10 ∷ []))) (sym f))

-- the pieces were written one after the other
pub record_written : (t : Told) {a b c d e f g h : Writer} {n p q : ℕ} → n ≡ t.number → t.places ≡ p ∷ q ∷ [] → a.at ≤ room_of a
    → Wrote a b (codes "refusal,places\r\n") → Wrote b c (decimal n) → Wrote c d (44 ∷ []) → Wrote d e (decimal p) → Wrote e f (32 ∷ []) → Wrote f g (decimal q)
    → Wrote g h (13 ∷ 10 ∷ []) → Wrote a h (refusal_text t)
record_written t {n} {p} {q} number places at ab bc cd de ef fg gh =
    wrote_as (pieces_join t n p q number places)
    (wrote_both (wrote_both (wrote_both (wrote_both (wrote_both (wrote_both ab bc at) cd at) de at) ef at) fg at) gh at)
