-- A walk over the records of a text, each of which has been found to keep some rule.
use Rattle.std.proofs.Common.{◌≡◌, ℕ, ◌+◌, ◌<◌, ◌≤◌, List, [], ◌∷◌, length, get_or, drop, Some, Ok, Err, Result, sym, refl, ap, ◌∙◌, subst, arith, length-drop, below_more}
use Rattle.std.specs.List.{AllByRecursion}
use Rattle.std.specs.Result.{result_ok}
use Rattle.std.proofs.ByRecursion.{All-get_or, All-from_get_or}
use Rattle.std.proofs.lemmas.List.{drop_more}
use Rattle.table_files.specs.declared.fault.Place.{Place}
use Rattle.table_files.specs.declared.records.RecordPlaces.{RecordPlaces}
use Rattle.table_files.specs.declared.records.Records.{Records}
use Rattle.table_files.specs.declared.rows.Row.{Row}
use Rattle.table_files.specs.declared.rows.Rows.{Rows}
use Rattle.table_files.specs.Grammar.{File}
use Rattle.table_files.specs.Places.{Found, Judged, Judgement, Passes, RecordStep, RowCount, RowRead, RowTested, RowsChecked}
use Rattle.table_files.specs.Tables.{Ahead, LawfulRow, Says, Sound, Walked, place, rest_of}
use Rattle.table_files.proofs.Walking.{firsts}

-- a file has a first record
says_file : (s : List ℕ) (records : List (List (List ℕ))) → 0 < length s → Says s records →
    (values : List (List ℕ)) × (others : List (List (List ℕ))) × (records ≡ values ∷ others) × File s (values ∷ others)
says_file [] records l h = absurd (omega arith)
says_file (b ∷ s) [] l h = absurd (firsts h)
says_file (b ∷ s) (values ∷ others) l h = (values, others, refl, h)

-- the records that are walked, and those that the text still says
pub record Through (P : List (List ℕ) → Type 0) (left : List ℕ) (count : ℕ) (rows : List (List (List ℕ))) : Type 0 where
  pub inside : count ≤ length rows
  pub says : Says left (drop count rows)
  pub kept : (k : ℕ) → k < count → P (get_or rows k [])

module _ (P : List (List ℕ) → Type 0) (from : Records) (count : ℕ) (rows : List (List (List ℕ))) (h : Through P (rest_of from) count rows) where
  module _ (r : RecordPlaces) (to : Records) (step : RecordStep from (Some r) to) where
    abbrev now : (values : List (List ℕ)) × (others : List (List (List ℕ))) × (drop count rows ≡ values ∷ others) × File (rest_of from) (values ∷ others)
    now = says_file (rest_of from) (drop count rows) step.0 h.says

    pub row_there : count < length rows
    row_there = omega (arith, length-drop count rows, ap length now.2)

    both : get_or rows count [] ∷ drop (count + 1) rows ≡ now.0 ∷ now.1
    both = sym (drop_more rows count [] row_there) ∙ now.2

    -- the record that stands here, before the others
    pub row_found : Found (get_or rows count []) (drop (count + 1) rows) r (rest_of to)
    row_found = step.1 _ _ (subst (File (rest_of from)) (sym both) now.3)

    pub through_more : P (get_or rows count []) → Through P (rest_of to) (count + 1) rows
    through_more p = record { inside = omega (arith, row_there); says = row_found.rest; kept = below_more (λ k. P (get_or rows k [])) count h.kept p }

-- at the end of the text all are walked
pub through_all : (P : List (List ℕ) → Type 0) (left : List ℕ) (count : ℕ) (rows : List (List (List ℕ))) → Through P left count rows → left ≡ [] → count ≡ length rows
through_all P left count rows h e =
    let d : drop count rows ≡ [] = subst (λ t. Says t (drop count rows)) e h.says in
    omega (arith, length-drop count rows, ap length d, h.inside)

-- each record passes a test, or the first that does not

pub judged_count : {Post : RecordPlaces → Result (Unit {0}) ℕ → Type 0} {rows : List (List (List ℕ))} {answer : Result ℕ Place} → Judged Post rows answer → (n : ℕ) →
    ((r : RecordPlaces) → Post r (Ok tt) → r.fields ≡ n) → ((r : RecordPlaces) (f : ℕ) → Post r (Err f) → (r.fields ≡ n → ⊥) × (f ≡ r.fields)) → RowCount n rows answer
judged_count {Post} {rows} {answer} h n ok err = by_answer answer h.answer
  where
    pass : (values : List (List ℕ)) → Passes Post values → length values ≡ n
    pass values (records, r, rest, f, p) = sym f.fields ∙ ok r p

    by_answer : (a : Result ℕ Place) → Judgement Post rows a → RowCount n rows a
    by_answer (Ok count) h = (h.0, All-from_get_or (λ values. length values ≡ n) rows [] (λ k l. pass _ (h.1 k l)))
    by_answer (Err p) (k, l, b, records, r, rest, f, g, q, e) =
        let w = err r g q in (
          k,
          record { there = l; odd = λ m. w.0 (f.fields ∙ m); first = λ s m. pass _ (b s m) },
          e ∙ ap (place (k + 2)) (w.1 ∙ f.fields),
        )

pub judged_checked : {Post : RecordPlaces → Result (Unit {0}) ℕ → Type 0} {rows : List (List (List ℕ))} {answer : Result ℕ Place} → Judged Post rows answer →
    AllByRecursion (λ values. length values ≤ 5) rows → ((r : RecordPlaces) (o : Result (Unit {0}) ℕ) → Post r o → RowTested r o) → RowsChecked rows answer
judged_checked {Post} {rows} {answer} h few right = by_answer answer h.answer
  where
    few_at : (k : ℕ) → k < length rows → length (get_or rows k []) ≤ 5
    few_at k l = All-get_or (λ values. length values ≤ 5) rows k [] l few

    sound : (k : ℕ) → k < length rows → Passes Post (get_or rows k []) → Sound (get_or rows k [])
    sound k l (records, r, rest, f, p) = right r (Ok tt) p _ rest records f (few_at k l)

    by_answer : (a : Result ℕ Place) → Judgement Post rows a → RowsChecked rows a
    by_answer (Ok count) h = All-from_get_or Sound rows [] (λ k l. sound k l (h.1 k l))
    by_answer (Err p) (k, l, b, records, r, rest, f, g, q, e) =
        let w = right r (Err g) q _ rest records f (few_at k l) in (
          k,
          w.0,
          record { there = l; inside = w.2.0; broken = w.2.1; first = w.2.2; before = λ s m. sound s (omega arith) (b s m) },
          e ∙ ap (place (k + 2)) w.1,
        )

-- a step of a walk over lawful rows

module _ (n : ℕ) (walk : Rows) (rows : List (List (List ℕ))) (h : Ahead n walk rows) where
  module _ (r : RecordPlaces) (to : Records) (step : RecordStep walk.records (Some r) to) (o : Result Row ℕ)
      (row : (values : List (List ℕ)) (records : List (List (List ℕ))) → Found values records r (rest_of to) → length values ≤ 5 → RowRead values o) where
    first_row : (values : List (List ℕ)) × (others : List (List (List ℕ))) × (rows ≡ values ∷ others) × Found values others r (rest_of to) × RowRead values o
        × LawfulRow n values × AllByRecursion (LawfulRow n) others
    first_row =
        let k = says_file (rest_of walk.records) rows step.0 h.0 in
        let f = step.1 k.0 k.1 k.3 in
        let s = subst (AllByRecursion (LawfulRow n)) k.2 h.3 in
        (k.0, k.1, k.2, f, row k.0 k.1 f (omega (arith, s.0.0, h.2)), s.0, s.1)

    pub walked_wrong : (f : ℕ) → o ≡ Err f → ⊥
    walked_wrong f e =
        let k = first_row in
        let w = subst (RowRead k.0) e k.4 in
        w.2.1 (k.5.1 w.0 w.2.0)

    pub walked : (after : Rows) → after.records ≡ to → Walked n rows (result_ok o) after
    walked after t = by_answer o refl
      where
        by_answer : (a : Result Row ℕ) → o ≡ a → Walked n rows (result_ok a) after
        by_answer (Ok x) e =
            let k = first_row in (k.0, k.1, k.2, (subst (RowRead k.0) e k.4).1, (subst (λ w. Says (rest_of w) k.1) (sym t) k.3.rest, h.1, h.2, k.6))
        by_answer (Err f) e = absurd (walked_wrong f e)
