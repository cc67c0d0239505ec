-- What is wrong with a text is one thing, and nothing is wrong with a table file.
use Rattle.std.proofs.Common.{◌≡◌, ℕ, ◌+◌, ◌<◌, ◌≤◌, ◌⊎◌, List, [], ◌∷◌, length, get_or, Some, None, Ok, Err, Option, Result, sym, refl, ap, ◌∙◌, subst, inl, inr, arith}
use Rattle.std.specs.List.{AllByRecursion}
use Rattle.std.proofs.ByRecursion.{All-get_or, All-weaker}
use Rattle.std.proofs.lemmas.Bool.{cases_order}
use Rattle.table_files.specs.declared.fault.Fault.{Fault}
use Rattle.table_files.specs.declared.fault.Fault.TheVariants.{TooLong, Grammar, Header, FieldCount, Field}
use Rattle.table_files.specs.declared.fault.Place.{Place}
use Rattle.table_files.specs.declared.records.RecordPlaces.{RecordPlaces}
use Rattle.table_files.specs.declared.TableFile.{TableFile}
use Rattle.table_files.specs.Grammar.{File, Lawful}
use Rattle.table_files.specs.Places.{Found, RowCount, RowsChecked, Width}
use Rattle.table_files.specs.Tables.{Reads, Says, Wrong, Rule, Sound, LawfulHeader, LawfulRow, Table, FirstOdd, FirstBroken, Opened, Answer, Answered, place, rest_of}
use Rattle.table_files.proofs.Checks.{one_place, not_both}
use Rattle.table_files.proofs.Reading.{one_reading}
use Rattle.table_files.proofs.Walking.{firsts}

-- the first row of its kind is one

one_odd : (n : ℕ) (rows : List (List (List ℕ))) (r s : ℕ) → FirstOdd n rows r → FirstOdd n rows s → r ≡ s
one_odd n rows r s a b =
    elim (cases_order r s) [
      | inl e ↦ e
      | inr (inl l) ↦ absurd (a.odd (b.first r l))
      | inr (inr l) ↦ absurd (b.odd (a.first s l))
    ]

not_after : (rows : List (List (List ℕ))) (r f s g : ℕ) → FirstBroken rows r f → FirstBroken rows s g → (r < s) ⊎ ((r ≡ s) × (f < g)) → ⊥
not_after rows r f s g a b (inl l) = a.broken (b.before r l f a.inside)
not_after rows r f s g a b (inr (e, l)) = a.broken (subst (λ t. Rule (get_or rows t []) f) (sym e) (b.first f l))

one_broken : (rows : List (List (List ℕ))) (r f s g : ℕ) → FirstBroken rows r f → FirstBroken rows s g → (r ≡ s) × (f ≡ g)
one_broken rows r f s g a b =
    elim (cases_order r s) [
      | inr (inl l) ↦ absurd (not_after rows r f s g a b (inl l))
      | inr (inr l) ↦ absurd (not_after rows s g r f b a (inl l))
      | inl e ↦
          elim (cases_order f g) [
            | inl d ↦ (e, d)
            | inr (inl l) ↦ absurd (not_after rows r f s g a b (inr (e, l)))
            | inr (inr l) ↦ absurd (not_after rows s g r f b a (inr (sym e, l)))
          ]
    ]

-- a text is read in one way

abbrev Rows : Type 0
Rows = List (List (List ℕ))

same_table : (text : List ℕ) {h g : List (List ℕ)} {r s : Rows} → Reads text h r → Reads text g s → (h ≡ g) × (r ≡ s)
same_table text {h} {g} {r} {s} a b =
    let e : h ∷ r ≡ g ∷ s = one_reading text (h ∷ r) (g ∷ s) a.1 b.1 in (cc, cc)

-- which comes first

long_short : (text : List ℕ) → 65536 < length text → length text ≤ 65536 → ⊥
long_short text a b = omega arith

broken_read : {text : List ℕ} {p : Place} {h : List (List ℕ)} {r : Rows} → Wrong text (Grammar p) → Reads text h r → ⊥
broken_read {text} {p} {h} {r} a b = not_both text p.«record» p.field (h ∷ r, b.1) a.1

header_lawful : {text : List ℕ} {p : Place} {h : List (List ℕ)} {r : Rows} → Wrong text (Header p) → Reads text h r → LawfulHeader h → ⊥
header_lawful {text} (g, s, b, bad, e) a l = bad (subst LawfulHeader (same_table text a b).0 l)

count_same : {text : List ℕ} {p : Place} {h : List (List ℕ)} {r : Rows} → Wrong text (FieldCount p) → Reads text h r →
    AllByRecursion (λ values. length values ≡ length h) r → ⊥
count_same {text} {h = h} {r = r} (g, s, b, l, k, odd, e) a all =
    let t = same_table text a b in
    odd.odd (subst (λ (n : ℕ). length (get_or s k []) ≡ n) (ap length t.0)
    (All-get_or (λ values. length values ≡ length h) s k [] odd.there (subst (AllByRecursion (λ values. length values ≡ length h)) t.1 all)))

rows_sound : {text : List ℕ} {p : Place} {h : List (List ℕ)} {r : Rows} → Wrong text (Field p) → Reads text h r → AllByRecursion (LawfulRow (length h)) r → ⊥
rows_sound {text} {h = h} {r = r} (g, s, b, l, n, k, f, br, e) a all =
    let t = same_table text a b in
    br.broken ((All-get_or (LawfulRow (length h)) s k [] br.there (subst (AllByRecursion (LawfulRow (length h))) t.1 all)).1 f br.inside)

one_fault : (text : List ℕ) (f g : Fault) → Wrong text f → Wrong text g → f ≡ g
one_fault text TooLong TooLong a b = refl
one_fault text TooLong (Grammar q) a b = absurd (long_short text a b.0)
one_fault text TooLong (Header q) a b = absurd (long_short text a b.2.0)
one_fault text TooLong (FieldCount q) a b = absurd (long_short text a b.2.0)
one_fault text TooLong (Field q) a b = absurd (long_short text a b.2.0)
one_fault text (Grammar p) TooLong a b = absurd (long_short text b a.0)
one_fault text (Grammar p) (Grammar q) a b =
    let e = one_place text p.«record» p.field q.«record» q.field a.1 b.1 in
    ap Grammar (ap (λ r. place r p.field) e.0 ∙ ap (place q.«record») e.1)
one_fault text (Grammar p) (Header q) a b = absurd (broken_read a b.2)
one_fault text (Grammar p) (FieldCount q) a b = absurd (broken_read a b.2)
one_fault text (Grammar p) (Field q) a b = absurd (broken_read a b.2)
one_fault text (Header p) TooLong a b = absurd (long_short text b a.2.0)
one_fault text (Header p) (Grammar q) a b = absurd (broken_read b a.2)
one_fault text (Header p) (Header q) (h, r, a, _, e) (g, s, b, _, d) =
    ap Header (e ∙ (ap (λ t. place 1 (length t)) (same_table text a b).0 ∙ sym d))
one_fault text (Header p) (FieldCount q) a b = absurd (header_lawful a b.2 b.3)
one_fault text (Header p) (Field q) a b = absurd (header_lawful a b.2 b.3)
one_fault text (FieldCount p) TooLong a b = absurd (long_short text b a.2.0)
one_fault text (FieldCount p) (Grammar q) a b = absurd (broken_read b a.2)
one_fault text (FieldCount p) (Header q) a b = absurd (header_lawful b a.2 a.3)
one_fault text (FieldCount p) (FieldCount q) (h, r, a, _, k, x, e) (g, s, b, _, l, y, d) =
    let t = same_table text a b in
    let x' : FirstOdd (length g) s k = subst (λ n. FirstOdd n s k) (ap length t.0) (subst (λ u. FirstOdd (length h) u k) t.1 x) in
    let i = one_odd (length g) s k l x' y in
    ap FieldCount (e ∙ (ap (λ u. place (k + 2) (length (get_or u k []))) t.1 ∙ (ap (λ j. place (j + 2) (length (get_or s j []))) i ∙ sym d)))
one_fault text (FieldCount p) (Field q) a b = absurd (count_same a b.2 b.4)
one_fault text (Field p) TooLong a b = absurd (long_short text b a.2.0)
one_fault text (Field p) (Grammar q) a b = absurd (broken_read b a.2)
one_fault text (Field p) (Header q) a b = absurd (header_lawful b a.2 a.3)
one_fault text (Field p) (FieldCount q) a b = absurd (count_same b a.2 a.4)
one_fault text (Field p) (Field q) (h, r, a, _, _, k, f, x, e) (g, s, b, _, _, l, i, y, d) =
    let t = same_table text a b in
    let j = one_broken s k f l i (subst (λ u. FirstBroken u k f) t.1 x) y in
    ap Field (e ∙ (ap (λ n. place (n + 2) (f + 1)) j.0 ∙ (ap (λ n. place (l + 2) (n + 1)) j.1 ∙ sym d)))

all_counts : (n : ℕ) (rows : Rows) → AllByRecursion (LawfulRow n) rows → AllByRecursion (λ values. length values ≡ n) rows
all_counts n [] h = tt
all_counts n (values ∷ rows) h = (h.0.0, all_counts n rows h.1)

not_wrong : (text : List ℕ) (h : List (List ℕ)) (r : Rows) → Reads text h r → Table h r → (f : Fault) → Wrong text f → ⊥
not_wrong text h r a t TooLong w = long_short text w a.0
not_wrong text h r a t (Grammar p) w = broken_read w a
not_wrong text h r a t (Header p) w = header_lawful w a t.0
not_wrong text h r a t (FieldCount p) w = count_same w a (all_counts (length h) r t.1)
not_wrong text h r a t (Field p) w = rows_sound w a t.1

refuses : (text : List ℕ) (a : Result TableFile Fault) → Answer text a → (f : Fault) → Wrong text f → a ≡ Err f
refuses text (Ok file) (h, r, a, o) f w = absurd (not_wrong text h r a o.table f w)
refuses text (Err g) a f w = ap Err (one_fault text g f a w)

opens : (text : List ℕ) (a : Result TableFile Fault) → Answer text a → (h : List (List ℕ)) (r : Rows) → Reads text h r → Table h r →
    (file : TableFile) × (a ≡ Ok file) × Opened h r file
opens text (Ok file) (g, s, b, o) h r a t =
    let e = same_table text b a in
    (file, refl, subst (λ u. Opened u r file) e.0 (subst (λ u. Opened g u file) e.1 o))
opens text (Err f) w h r a t = absurd (not_wrong text h r a t f w)

pub answered : (text : List ℕ) (a : Result TableFile Fault) → Answer text a → Answered text a
answered text a h = record { answer = h; refuses = refuses text a h; opens = opens text a h; one = one_reading text }

-- what is answered to a lawful text, by what is found out in turn

header_of : (text : List ℕ) → Lawful text → (h : List (List ℕ)) × (r : Rows) × File text (h ∷ r)
header_of text ([], f) = absurd (firsts f)
header_of text (h ∷ r, f) = (h, r, f)

lawful_rows : (n : ℕ) (rows : Rows) → AllByRecursion (λ values. length values ≡ n) rows → AllByRecursion Sound rows → AllByRecursion (LawfulRow n) rows
lawful_rows n [] a b = tt
lawful_rows n (values ∷ rows) a b = ((a.0, b.0), lawful_rows n rows a.1 b.1)

module _ (text : List ℕ) (short : length text ≤ 65536) (lawful : Lawful text) (header : RecordPlaces)
    (left : List ℕ) (found : (values : List (List ℕ)) (records : Rows) → File text (values ∷ records) → Found values records header left) (w : Option ℕ)
    (width : (values : List (List ℕ)) (records : Rows) → Found values records header left → Width values w) where
  abbrev names : List (List ℕ)
  names = (header_of text lawful).0

  abbrev rows : Rows
  rows = (header_of text lawful).1

  abbrev reads : Reads text names rows
  reads = (short, (header_of text lawful).2)

  abbrev first : Found names rows header left
  first = found names rows reads.1

  pub answer_header : w ≡ None → Answered text (Err (Header (place 1 header.fields)))
  answer_header e =
      answered text (Err (Header _))
      (names, rows, reads, subst (Width names) e (width names rows first), ap (place 1) first.fields)

  module _ (n : ℕ) (e : w ≡ Some n) (counted : Result ℕ Place) (count : (rs : Rows) → Says left rs → RowCount header.fields rs counted) where
    abbrev lawful_header : LawfulHeader names × (n + 1 ≡ length names)
    lawful_header = subst (Width names) e (width names rows first)

    abbrev row_count : RowCount (length names) rows counted
    row_count = subst (λ m. RowCount m rows counted) first.fields (count rows first.rest)

    pub answer_count : (p : Place) → counted ≡ Err p → Answered text (Err (FieldCount p))
    answer_count p d =
        let o = subst (RowCount (length names) rows) d row_count in
        answered text (Err (FieldCount p)) (names, rows, reads, lawful_header.0, o.0, o.1, o.2)

    module _ (m : ℕ) (d : counted ≡ Ok m) (checked : Result ℕ Place)
        (check : (rs : Rows) → Says left rs → AllByRecursion (λ values. length values ≤ 5) rs → RowsChecked rs checked) where
      abbrev same_count : (m ≡ length rows) × AllByRecursion (λ values. length values ≡ length names) rows
      same_count = subst (RowCount (length names) rows) d row_count

      abbrev sound : RowsChecked rows checked
      sound =
          let few = lawful_header.0.1 in
          check rows first.rest (All-weaker _ _ (λ values l. omega arith) rows same_count.1)

      pub answer_field : (p : Place) → checked ≡ Err p → Answered text (Err (Field p))
      answer_field p g =
          let o = subst (RowsChecked rows) g sound in
          answered text (Err (Field p)) (names, rows, reads, lawful_header.0, same_count.1, o.0, o.1, o.2, o.3)

      pub answer_file : (k : ℕ) → checked ≡ Ok k → (file : TableFile) → file.width ≡ n → file.count ≡ m → rest_of file.rows.records ≡ left → Answered text (Ok file)
      answer_file k g file wi co le =
          let all = lawful_rows (length names) rows same_count.1 (subst (RowsChecked rows) g sound) in
          answered text (Ok file) (
            names,
            rows,
            reads,
            record {
              table = (lawful_header.0, all);
              width = ap (λ k. k + 1) wi ∙ lawful_header.1;
              count = co ∙ same_count.0;
              ahead = (
                subst (λ s. Says s rows) (sym le) first.rest,
                lawful_header.0.0,
                lawful_header.0.1,
                all,
              );
            },
          )
