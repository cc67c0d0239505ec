-- From the reader's run to where a text breaks the grammar.
use Rattle.std.proofs.Common.{◌≡◌, ℕ, ◌+◌, ◌<◌, ◌≤◌, true, false, List, [], ◌∷◌, ◌++◌, length, get_or, take, drop, Some, None, sym, refl, ap, ◌∙◌, inl, inr, append_assoc, arith, length-take}
use Rattle.std.proofs.lemmas.List.{take_more, take-take, take-append-drop, take_all}
use Rattle.std.proofs.lemmas.Bool.{false≢true, cases_order}
use Rattle.table_files.specs.declared.reader.State.TheVariants.{Before}
use Rattle.table_files.specs.declared.reader.Reader.{Reader}
use Rattle.table_files.specs.Steps.{class_of, at, moved, done}
use Rattle.table_files.specs.Grammar.{Lawful, Continues, BreaksAt, Breaks}
use Rattle.table_files.proofs.Runs.{step, run, start, run_append, file_runs, place_runs, dead}
use Rattle.table_files.proofs.Reached.{Reached, reached_start, reached_more, accept, continues, placed, few}

-- Where a text breaks is one place.

continues_less : (raw : List ℕ) (i j : ℕ) → i ≤ j → Continues (take j raw) → Continues (take i raw)
continues_less raw i j h c =
    let t = take j raw in
    let e : take i raw ++ (drop i t ++ c.0) ≡ t ++ c.0 =
    ap (λ l. l ++ (drop i t ++ c.0)) (sym (take-take i j raw h))
    ∙ (sym (append_assoc (take i t) (drop i t) c.0) ∙ ap (λ l. l ++ c.0) (take-append-drop i t)) in
    (drop i t ++ c.0, rw e c.1)

not_later : (raw : List ℕ) (i j : ℕ) → BreaksAt raw i → BreaksAt raw j → i < j → ⊥
not_later raw i j (c, inl b) (d, e) h = b.1 (continues_less raw (i + 1) j (omega arith) d)
not_later raw i j (c, inr b) (d, inl e) h = omega arith
not_later raw i j (c, inr b) (d, inr e) h = omega arith

pub one_place : (raw : List ℕ) (r f s g : ℕ) → Breaks raw r f → Breaks raw s g → (r ≡ s) × (f ≡ g)
one_place raw r f s g a b =
    let e : a.0 ≡ b.0 =
    elim (cases_order a.0 b.0) [
      | inl e ↦ e
      | inr (inl h) ↦ absurd (not_later raw a.0 b.0 a.1 b.1 h)
      | inr (inr h) ↦ absurd (not_later raw b.0 a.0 b.1 a.1 h)
    ] in
    let x = place_runs a.2 in
    let y = place_runs b.2 in
    let z : Some (at x.0 r f) ≡ Some (at y.0 s g) = sym x.1 ∙ (ap (λ i. run start (take i raw)) e ∙ y.1) in
    let u : at x.0 r f ≡ at y.0 s g = cc in
    (ap (λ k. k.place.«record») u, ap (λ k. k.place.field) u)

pub not_both : (raw : List ℕ) (r f : ℕ) → Lawful raw → Breaks raw r f → ⊥
not_both raw r f l (i, (c, inl b), p) = b.1 (drop (i + 1) raw, rw take-append-drop l)
not_both raw r f l (i, (c, inr b), p) = b.1 l

-- the reader x after the first i bytes
pub record Sofar (raw : List ℕ) (i : ℕ) (x : Reader) : Type 0 where
  pub runs : run start (take i raw) ≡ Some x
  pub reached : Reached (take i raw) x

pub sofar_none : (raw : List ℕ) → Sofar raw 0 (at Before 1 1)
sofar_none raw = record { runs = refl; reached = reached_start }

pub sofar_few : (raw : List ℕ) (i : ℕ) (x : Reader) → Sofar raw i x → (x.place.«record» ≤ i + 1) × (x.place.field ≤ i + 1)
sofar_few raw i x h =
    let l = length-take i raw in
    let k = few (take i raw) x h.reached in
    (omega arith, omega arith)

module _ (raw : List ℕ) (i : ℕ) (x : Reader) (h : Sofar raw i x) (lt : i < length raw) where
  abbrev here : ℕ
  here = get_or raw i 0

  runs_more : run start (take (i + 1) raw) ≡ step (Some x) here
  runs_more =
      ap (run start) (take_more raw i 0 lt) ∙ (run_append start (take i raw) (here ∷ []) ∙ ap (λ o. step o here) h.runs)

  pub sofar_more : (y : Reader) → moved x (class_of here) ≡ Some y → Sofar raw (i + 1) y
  sofar_more y e =
      record { runs = runs_more ∙ e; reached = rw (take_more raw i 0 lt) (reached_more (take i raw) here x y h.reached e) }

  pub breaks_here : moved x (class_of here) ≡ None → Breaks raw x.place.«record» x.place.field
  breaks_here e =
      (i, (continues (take i raw) x h.reached, inl (lt, dead (take (i + 1) raw) (runs_more ∙ e))), placed (take i raw) x h.reached)

module _ (raw : List ℕ) (i : ℕ) (x : Reader) (h : Sofar raw i x) (e : i ≡ length raw) where
  whole : take i raw ≡ raw
  whole = take_all i raw (omega arith)

  pub lawful_all : done x.state ≡ true → Lawful raw
  lawful_all d = rw whole at (accept (take i raw) x h.reached d)

  unlawful_all : done x.state ≡ false → Lawful raw → ⊥
  unlawful_all d l =
      let k = file_runs l.1 1 in
      let z : Some x ≡ Some k.0 = sym h.runs ∙ (ap (run start) whole ∙ k.1) in
      let u : x ≡ k.0 = cc in
      false≢true (sym d ∙ (ap (λ y. done y.state) u ∙ k.2))

  pub breaks_end : done x.state ≡ false → Breaks raw x.place.«record» x.place.field
  breaks_end d = (i, (continues (take i raw) x h.reached, inr (e, unlawful_all d)), placed (take i raw) x h.reached)
