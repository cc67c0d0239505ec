-- The rows of a file, tested and added.
use Rattle.std.proofs.Common.{◌≡◌, ℕ, zero, suc, ◌+◌, ◌-◌, ◌<◌, ◌≤◌, List, [], ◌∷◌, ◌++◌, map, length, get_or, drop, replicate, Ok, Err, sym, refl, ap, ◌∙◌, subst, ap₂, inl, inr, zero-add, arith, length-append, length-drop, get_or-drop, le-ltb, lt-ltb, le-leb}
use lib.ListN.{length-map}
use Rattle.std.proofs.lemmas.Grind.{same_number_lists}
use Rattle.std.proofs.lemmas.List.{get_or-replicate, length-replicate}
use borrow.Author.Tests.{lt-leb}
use Rattle.std.specs.List.{All, AllWithin, HoldsAt}
use Rattle.std.proofs.lemmas.List.Elements.{All-head, All-tail, All-map, All-weaker, All-from_recursion}
use Rattle.table_files.specs.declared.fault.Fault.{Fault}
use Rattle.table_files.specs.declared.rows.Row.{Row as FileRow}
use Rattle.table_files.specs.declared.rows.Rows.{Rows}
use Rattle.table_files.specs.declared.TableFile.{TableFile}
use Rattle.table_files.specs.Grammar.{CR, LF, Values, File, last, ended, more}
use Rattle.table_files.specs.Tables.{Ahead, Answer, LawfulRow as LawfulRecord, Reads, Table, Wrong, cell, row_of}
use Rattle.table_files.proofs.Faults.{answered}
use Rattle.table_files.proofs.Reading.{one_reading}
use Rattle.book.specs.declared.rows.Row.{Row}
use Rattle.book.specs.Files.{LoadJudged, unless_unsure, table_file_verdict, with_file}
use Rattle.book.specs.Inner.{Fit, Sure}
use Rattle.book.specs.Ledgers.{LawfulRow, Ledger, Small, width_of}
use Rattle.book.specs.Refusals.{at, fault_told}
use Rattle.book.specs.Rows.{billion, from_file}
use Rattle.book.specs.Rules.{Verdict, refused, accepted, with_rows}

-- the tests of rows that are sure enough pass
pub all_pass : (k field : ℕ) (rows : List FileRow) (v : Verdict ℕ Ledger) → All Sure rows → unless_unsure k field rows v ≡ v
all_pass k field [] v s = refl
all_pass k field (r ∷ rs) v s = rw (le-leb r.sureness billion (All-head Sure r rs s)) (all_pass (k + 1) field rs v (All-tail Sure r rs s))

-- the first row that is not sure enough is refused by its number
pub first_unsure : (k field i : ℕ) (rows : List FileRow) (v : Verdict ℕ Ledger) → i < length rows → HoldsAt (λ r. billion < r.sureness) rows i → AllWithin Sure rows 0 i
    → unless_unsure k field rows v ≡ refused (at 12 (i + k) field)
first_unsure k field i [] v l high sure = elim l [ ]
first_unsure k field zero (r ∷ rs) v l high sure = rw (lt-leb r.sureness billion (high r), zero-add k)
first_unsure k field (suc i) (r ∷ rs) v l high sure =
    let e : i + (k + 1) ≡ suc i + k = omega arith in
    rw (le-leb r.sureness billion (sure 0 r (omega arith) (omega arith)))
    (first_unsure (k + 1) field i rs v (omega arith) high (λ j d low below. sure (suc j) d (omega arith) (omega arith)) ∙ ap (λ n. refused (at 12 n field)) e)

-- a row of a file has no cell past its table's width
row_padded : (w : ℕ) (values : List (List ℕ)) → length values ≡ w + 1 → drop w (row_of values).cells ≡ replicate (4 - w) 0
row_padded w values e =
    same_number_lists (drop w (row_of values).cells) (replicate (4 - w) 0) (length-drop w (row_of values).cells ∙ sym (length-replicate (4 - w) 0))
    (λ k l. let n = length-drop w (row_of values).cells in
    get_or-drop w (row_of values).cells k 0 ∙ past (w + k) (omega arith) ∙ sym (get_or-replicate (4 - w) k 0 0 (omega arith)))
  where
    none : (k : ℕ) → w ≤ k → cell values k ≡ 0
    none k h = rw (le-ltb (k + 1) (length values) (omega arith))

    past : (i : ℕ) → w ≤ i → get_or (row_of values).cells i 0 ≡ 0
    past zero h = none 0 h
    past (suc zero) h = none 1 h
    past (suc (suc zero)) h = none 2 h
    past (suc (suc (suc zero))) h = none 3 h
    past (suc (suc (suc (suc i)))) h = refl

-- each row of a file is padded
pub rows_padded : (w : ℕ) (walk : Rows) (records : List Values) → Ahead (w + 1) walk records → All (λ (r : FileRow). drop w r.cells ≡ replicate (4 - w) 0) (map row_of records)
rows_padded w walk records ahead =
    All-map (λ (r : FileRow). drop w r.cells ≡ replicate (4 - w) 0) row_of records
    (All-weaker (LawfulRecord (w + 1)) (λ values. drop w (row_of values).cells ≡ replicate (4 - w) 0) (λ values lawful. row_padded w values lawful.0) records (All-from_recursion (LawfulRecord (w + 1)) records ahead.3))

-- the next row of a file that fits may be added
pub row_fits : {before now : Ledger} {table : ℕ} {walk : Rows} (fit : Fit before table walk) (done : List FileRow) (row : FileRow) (r : Row) → now ≡ with_rows before (before.rows ++ map (from_file table) done)
    → (length done < length (map row_of fit.records)) × (row ≡ get_or (map row_of fit.records) (length done) row) → r ≡ from_file table row → Small r → length r.cells ≡ 4
    → (length now.rows < 256) × LawfulRow now.widths r
row_fits {before} {table} {walk} fit done row r so_far (inside, here) same small four =
    let w = width_of before table in
    let widths = ap (λ (l : Ledger). l.widths) so_far in
    let n = ap (λ (l : Ledger). length l.rows) so_far ∙ length-append before.rows (map (from_file table) done) in
    let m = length-map done (from_file table) in
    let k = length-map fit.records row_of in
    let sure : Sure row = subst Sure (sym here) (fit.sure (length done) row inside) in
    let padded = subst (λ (x : FileRow). drop w x.cells ≡ replicate (4 - w) 0) (sym here) (rows_padded w walk fit.records fit.ahead (length done) row inside) in
    (omega (arith, fit.room), ((rw (same, widths) fit.opened, rw same sure, four), rw (same, widths) padded, small))

-- a table is accepted
pub file_accepted : (l : Ledger) (w : ℕ) (rows : List FileRow) → length l.widths < 8 → All Sure rows → length l.rows + length rows ≤ 256
    → table_file_verdict l w rows ≡ accepted (length l.widths) (with_file l w rows)
file_accepted l w rows room sure few =
    rw (lt-ltb (length l.widths) 8 room) (all_pass 2 (w + 1) rows _ sure ∙ rw (le-leb (length l.rows + length rows) 256 few))

-- there are not row numbers enough
pub file_full : (l : Ledger) (w : ℕ) (rows : List FileRow) → length l.widths < 8 → All Sure rows → length l.rows ≤ 256 → 256 < length l.rows + length rows
    → table_file_verdict l w rows ≡ refused (at 13 (2 + (256 - length l.rows)) 1)
file_full l w rows room sure within full =
    let first : 258 - length l.rows ≡ 2 + (256 - length l.rows) = omega arith in
    rw (lt-ltb (length l.widths) 8 room)
    (all_pass 2 (w + 1) rows _ sure ∙ rw (lt-leb (length l.rows + length rows) 256 full) (ap (λ (r : ℕ). refused (at 13 r 1)) first))

-- a file has at most one record more than bytes
few_records : {raw : List ℕ} {records : List Values} → File raw records → length records ≤ length raw + 1
few_records (last r) = omega arith
few_records (ended r) = omega arith
few_records (more {raw} {values} {b} {rest} r f) = let h = few_records f in let l = length-append raw (CR ∷ LF ∷ b ∷ rest) in omega arith

pub load_few : (text : List ℕ) (file : TableFile) (read : Answer text (Ok file)) → length read.1 ≤ 65536
load_few text file read = let h = few_records read.2.1 in omega (arith, read.2.0)

-- a text with a fault is no table
apart : (text : List ℕ) (f : Fault) → Wrong text f → (header : Values) (rows : List Values) → Reads text header rows → Table header rows → ⊥
apart text f wrong header rows reads table =
    let q = ((answered text (Err f) wrong).opens header rows reads table).1 in
    let z : ◌≡◌ {A = ℕ} 0 1 = cc in
    omega arith

-- the rules give one verdict on a file
pub load_one : (l : Ledger) (text : List ℕ) (v w : Verdict ℕ Ledger) → LoadJudged l text v → LoadJudged l text w → v ≡ w
load_one l text v w (inl (f, x, e)) (inl (g, y, d)) =
    let q = (answered text (Err f) x).refuses g y in
    let same : f ≡ g = cc in
    e ∙ ap (λ h. refused (fault_told h)) same ∙ sym d
load_one l text v w (inl (f, x, e)) (inr (header, rows, reads, table, d)) = absurd (apart text f x header rows reads table)
load_one l text v w (inr (header, rows, reads, table, d)) (inl (f, x, e)) = absurd (apart text f x header rows reads table)
load_one l text v w (inr (header, rows, reads, table, e)) (inr (header', rows', reads', table', d)) =
    let same = one_reading text (header ∷ rows) (header' ∷ rows') reads.1 reads'.1 in
    let h : header ≡ header' = cc in
    let r : rows ≡ rows' = cc in
    e ∙ ap₂ (λ x y. table_file_verdict l (length x - 1) (map row_of y)) h r ∙ sym d
