-- What every book keeps is kept by one table more and by one row more.
use Rattle.std.proofs.Common.{◌≡◌, ℕ, ◌-◌, ◌<◌, ◌≤◌, List, [], ◌∷◌, ◌++◌, length, get_or, drop, replicate, sym, ap, ◌∙◌, arith, length-append, length-take-le}
use lib.Seq.{drop-append_seam}
use Rattle.std.proofs.Math.ListN.{get_or-append}
use Rattle.std.specs.List.{All}
use Rattle.std.proofs.lemmas.List.{drop-replicate}
use Rattle.std.proofs.lemmas.List.Elements.{All-weaker}
use Rattle.lists.specs.Items.{items_of}
use Rattle.lists.specs.declared.FixedList.{FixedList}
use Rattle.book.specs.declared.books.Book.{Book}
use Rattle.book.specs.declared.rows.Row.{Row}
use Rattle.book.specs.Books.{ledger}
use Rattle.book.specs.Ledgers.{LawfulRow, Padded, Wide, width_of}
use Rattle.book.specs.Rows.{new_row}

-- a list in fixed memory has as many items as it counts, and at most as many as places
items_counted : {T : Type 0} {N : ℕ} (list : FixedList T N) → length (items_of list) ≡ list.len
items_counted list = let few = list.within in let size = list.sized in length-take-le list.len list.places (omega arith)

pub items_few : {T : Type 0} {N : ℕ} (list : FixedList T N) → length (items_of list) ≤ N
items_few list = let few = list.within in let n = items_counted list in omega arith

-- the tables and the rows that a book counts are as many as its ledger has
pub tables_counted : (b : Book) → length (ledger b).widths ≡ b.widths.len
tables_counted b = items_counted b.widths

pub rows_counted : (b : Book) → length (ledger b).rows ≡ b.rows.len
rows_counted b = items_counted b.rows

-- each open table is 1 to 4 wide
pub table_wide : (b : Book) (t : ℕ) → t < length (ledger b).widths → Wide (width_of (ledger b) t)
table_wide b t h = b.wide t 0 h

-- a new row's cells are followed by 0
pub new_padded : (ws cs : List ℕ) (t s : ℕ) → length cs ≡ get_or ws t 0 → Padded ws (new_row t cs s)
new_padded ws cs t s e = rw (sym e) (drop-append_seam cs (drop (length cs) (replicate 4 0)) ∙ drop-replicate (length cs) 4 0)

-- an item is put into the first of the vacant places
pub vacant_after : {T : Type 0} (filler item : T) (rest items : List T) (n : ℕ) → rest ≡ replicate (n - length items) filler
    → drop 1 rest ≡ replicate (n - length (items ++ (item ∷ []))) filler
vacant_after filler item rest items n e =
    let l = length-append items (item ∷ []) in
    let less : n - length items - 1 ≡ n - length (items ++ (item ∷ [])) = omega arith in
    ap (drop 1) e ∙ drop-replicate 1 (n - length items) filler ∙ ap (λ k. replicate k filler) less

-- a row stays lawful where there is a table more
pub more_tables : (widths : List ℕ) (width : ℕ) (rows : List Row) → All (LawfulRow widths) rows → All (LawfulRow (widths ++ (width ∷ []))) rows
more_tables widths width = All-weaker (LawfulRow widths) (LawfulRow (widths ++ (width ∷ []))) wider
  where
    wider : (r : Row) → LawfulRow widths r → LawfulRow (widths ++ (width ∷ [])) r
    wider r lawful =
        let n = length-append widths (width ∷ []) in
        let same = get_or-append widths (width ∷ []) 0 r.table lawful.0.0 in
        ((omega arith, lawful.0.1, lawful.0.2), rw same lawful.1, lawful.2)
