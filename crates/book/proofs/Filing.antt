-- The file of a table, row by row, and that it loads back.
use Rattle.std.proofs.Common.{Bor, ◌≡◌, ℕ, zero, suc, ◌+◌, ◌-◌, ◌<◌, ◌≤◌, not, eqb, List, [], ◌∷◌, ◌++◌, map, length, get_or, drop, replicate, filter, sym, refl, ap, ◌∙◌, subst, ap₂, inr, arith, get_or-drop, eqb-true}
use lib.ListN.{length-map}
use Rattle.std.specs.List.{flat_map, All}
use Rattle.std.proofs.lemmas.List.Elements.{All-filter, All-map, All-weaker, filter_passes, recursion_from_All}
use Rattle.std.proofs.lemmas.List.Filters.{length-filter_both}
use Rattle.std.proofs.lemmas.List.{flat_map_more, map_push}
use Rattle.std.proofs.lemmas.Bool.{and_parts}
use Rattle.table_files.specs.declared.rows.Row.{Row as FileRow}
use Rattle.table_files.specs.Written.{ReadsBack, RowOfWidth, fields, names, row_text}
use Rattle.table_files.proofs.Back.{written_reads_back}
use Rattle.book.specs.declared.books.Book.{Book}
use Rattle.book.specs.declared.rows.Row.{Row}
use Rattle.book.specs.Books.{ledger}
use Rattle.book.specs.Files.{LoadsBack, rows_written, table_file_verdict, to_file, written?}
use Rattle.book.specs.Inner.{Sure}
use Rattle.book.specs.Ledgers.{LawfulRow, width_of}
use Rattle.book.proofs.Keeping.{items_few, table_wide}
use Rattle.book.proofs.Loading.{file_accepted}

-- what is written of some rows
abbrev pub rows_text : ℕ → List Row → List ℕ
rows_text w rows = flat_map (row_text w) (map to_file rows)

-- one row more
pub rows_text_more : (w : ℕ) (rows : List (Bor Row)) (row : Bor Row) → rows_text w (map (λ r. r.now) rows) ++ row_text w (to_file row.now) ≡ rows_text w (map (λ r. r.now) (rows ++ (row ∷ [])))
rows_text_more w rows row = flat_map_more (row_text w) [] (map to_file (map (λ r. r.now) rows)) (to_file row.now) ∙ sym (simp map_push)

zero_anywhere : (n i : ℕ) → ◌≡◌ {A = ℕ} (get_or (replicate n 0) i 0) 0
zero_anywhere zero i = refl
zero_anywhere (suc n) zero = refl
zero_anywhere (suc n) (suc i) = zero_anywhere n i

-- a lawful row of a table, as a row of a file of its width
row_of_width : (ws : List ℕ) (t : ℕ) (r : Row) → LawfulRow ws r → r.table ≡ t → RowOfWidth (get_or ws t 0) (to_file r)
row_of_width ws t r lawful e = record {
  four = lawful.0.2;
  small = lawful.2;
  beyond = λ k h.
      let w = get_or ws t 0 in
      let padded : drop w r.cells ≡ replicate (4 - w) 0 = subst (λ u. drop (get_or ws u 0) r.cells ≡ replicate (4 - get_or ws u 0) 0) e lawful.1 in
      let there : w + (k - w) ≡ k = omega arith in
      ap (λ i. get_or r.cells i 0) (sym there) ∙ sym (get_or-drop w r.cells (k - w) 0) ∙ ap (λ xs. get_or xs (k - w) 0) padded ∙ zero_anywhere (4 - w) (k - w);
  sure_small = omega (arith, lawful.0.1);
}

-- what is written of a table: rows of a file of its width, all sure enough
abbrev Good : (ws : List ℕ) (t : ℕ) → FileRow → Type 0
Good ws t r = RowOfWidth (get_or ws t 0) r × Sure r

-- each row that is written of a lawful ledger
file_rows : (ws : List ℕ) (t : ℕ) (rows : List Row) → All (LawfulRow ws) rows → All (Good ws t) (rows_written t rows)
file_rows ws t rows lawful =
    All-map (Good ws t) to_file (filter (written? t) rows)
    (λ k d h.
    let l = All-filter (written? t) (LawfulRow ws) rows lawful k d h in
    let r = get_or (filter (written? t) rows) k d in
    let e = and_parts (eqb r.table t) (not r.struck) (filter_passes (written? t) rows k d h) in
    (row_of_width ws t r l (eqb-true r.table t e.0), l.0.1))

-- the rows of a book, as they are written of one of its tables
module _ (b : Book) (t : ℕ) (opened : t < length (ledger b).widths) where
  rows_good : All (Good (ledger b).widths t) (rows_written t (ledger b).rows)
  rows_good = file_rows (ledger b).widths t (ledger b).rows b.lawful

  pub back : ReadsBack (width_of (ledger b) t) (rows_written t (ledger b).rows)
  back =
      let w = table_wide b t opened in
      written_reads_back (width_of (ledger b) t) (rows_written t (ledger b).rows) w.0 w.1
      (recursion_from_All _ _ (All-weaker (Good (ledger b).widths t) (RowOfWidth (width_of (ledger b) t)) (λ x p. p.0) (rows_written t (ledger b).rows) rows_good))

  pub rows_few : length (rows_written t (ledger b).rows) ≤ 256
  rows_few =
      let m = length-map (filter (written? t) (ledger b).rows) to_file in
      let k = length-filter_both (written? t) (λ r. not (written? t r)) (λ _. refl) (ledger b).rows in
      omega (arith, items_few b.rows)

  pub loads_back : LoadsBack (ledger b) t
  loads_back m room few =
      let r = back in
      let sure = All-weaker (Good (ledger b).widths t) Sure (λ x p. p.1) (rows_written t (ledger b).rows) rows_good in
      let w : length (names (width_of (ledger b) t)) - 1 ≡ width_of (ledger b) t = omega (arith, r.width) in
      inr (
        names (width_of (ledger b) t),
        map (fields (width_of (ledger b) t)) (rows_written t (ledger b).rows),
        r.reads (omega (arith, r.short)),
        r.table,
        sym (ap₂ (table_file_verdict m) w r.same ∙ file_accepted m (width_of (ledger b) t) (rows_written t (ledger b).rows) room sure few),
      )
