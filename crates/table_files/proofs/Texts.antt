-- The texts of a header and of a row, as they are written, and how long they get.
use Rattle.std.proofs.Common.{◌≡◌, ℕ, zero, suc, ◌+◌, ◌-◌, ◌*◌, ◌^◌, ◌<◌, ◌≤◌, List, [], ◌∷◌, ◌++◌, map, length, get_or, take, decimal, sym, refl, ap, ◌∙◌, arith, length-append}
use Rattle.std.specs.List.{flat_map}
use Rattle.std.proofs.lemmas.Fmt.{decimal_digit, length-decimal-le}
use Rattle.std.proofs.lemmas.List.{flat_map_more, map_more}
use Rattle.text.specs.Writers.{Wrote, room_of}
use Rattle.text.specs.declared.Writer.{Writer}
use Rattle.text.proofs.Writing.{wrote_as, wrote_both}
use Rattle.table_files.specs.declared.rows.Row.{Row}
use Rattle.table_files.specs.Grammar.{COMMA, CR, LF}
use Rattle.table_files.specs.Tables.{sure}
use Rattle.table_files.specs.Written.{column, columns, decimals, header_text, piece, row_text}

-- the names of some cells were written
abbrev pub Named : Writer → Writer → ℕ → Type 0
Named a b k = Wrote a b (flat_map piece (columns k))

-- one more name
pub named_more : (k : ℕ) → 1 ≤ k → {a b c : Writer} → Named a b (k - 1) → Wrote b c (piece (column k)) → a.at ≤ room_of a → Named a c k
named_more zero h f g l = absurd (let z : ⊥ = omega arith in z)
named_more (suc k) h {a} {b} {c} f g l =
    let e : suc k - 1 ≡ k = omega arith in
    wrote_as (flat_map_more piece [] (columns k) (column (suc k))) (wrote_both (rw e at f) g l)

pub columns_length : (k : ℕ) → k ≤ 4 → length (flat_map piece (columns k)) ≡ 3 * k
columns_length zero h = refl
columns_length (suc k) h =
    let d = ap length (decimal_digit (suc k) (omega arith)) in
    let l = columns_length k (omega arith) in
    let m = ap length (sym (flat_map_more piece [] (columns k) (column (suc k)))) in
    let n = length-append (flat_map piece (columns k)) (piece (column (suc k))) in
    let o = length-append (decimal (suc k)) (COMMA ∷ []) in
    omega arith

pub cells_more : (ns : List ℕ) (i : ℕ) → i < length ns → flat_map piece (map decimal (take (i + 1) ns)) ≡ flat_map piece (map decimal (take i ns)) ++ piece (decimal (get_or ns i 0))
cells_more ns i l = ap (flat_map piece) (map_more decimal ns i 0 l) ∙ sym (flat_map_more piece [] (map decimal (take i ns)) (decimal (get_or ns i 0)))

pub decimal_short : (n : ℕ) → n < 2 ^ 32 → length (decimal n) ≤ 10
decimal_short n h = length-decimal-le 10 n (omega arith) (omega arith) (omega arith)

pub cells_length : (ns : List ℕ) → ((k : ℕ) → get_or ns k 0 < 2 ^ 32) → (i : ℕ) → length (flat_map piece (map decimal (take i ns))) ≤ 11 * i
cells_length ns h zero = omega arith
cells_length [] h (suc i) = omega arith
cells_length (n ∷ ns) h (suc i) =
    let l = cells_length ns (λ k. h (suc k)) i in
    let d = decimal_short n (h 0) in
    let m = length-append (piece (decimal n)) (flat_map piece (map decimal (take i ns))) in
    let o = length-append (decimal n) (COMMA ∷ []) in
    omega arith

pub header_length : (w : ℕ) → w ≤ 4 → length (header_text w) ≤ 18
header_length w h = omega (arith, columns_length w h, length-append (flat_map piece (columns w)) (sure ++ (CR ∷ LF ∷ [])))

pub row_length : (w : ℕ) (row : Row) → w ≤ 4 → ((k : ℕ) → get_or row.cells k 0 < 2 ^ 32) → row.sureness < 2 ^ 32 → length (row_text w row) ≤ 56
row_length w row h small last =
    let d = decimal row.sureness in
    let a = cells_length row.cells small w in
    let b = decimal_short row.sureness last in
    let c = length-append (flat_map piece (decimals w row)) (d ++ (CR ∷ LF ∷ [])) in
    let e = length-append d (CR ∷ LF ∷ []) in
    omega arith
