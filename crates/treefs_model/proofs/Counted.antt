-- How many live records of a number a bucket has, once a record is made, numbered or written anew; and which names.
use Rattle.std.proofs.Common.{◌≡◌, ℕ, ◌+◌, ◌<◌, ◌^◌, Bool, true, false, cond, ◌&&◌, ◌||◌, List, [], ◌∷◌, ◌++◌, refl, sym, ◌∙◌, ap, arith}
use Rattle.std.specs.Prelude.{All, Contains, IsTrue, bytes_eq, filter, ◌==◌}
use Rattle.std.proofs.lemmas.List.Folds.{list_any-append}
use Rattle.std.proofs.lemmas.List.Sums.{sum_by-append, sum_by-cons}
use Rattle.xn_model.specs.Lists.{put}
use Rattle.treefs_format.specs.Buckets.{is_whole, made, rewritten, with_number}
use Rattle.treefs_format.specs.Records.{Entry, Record, entries_of, is_live, records_of}
use Rattle.treefs_format.proofs.ForCallers.{Fits, IsByte, made_read, numbered, renumbered_entries, rewritten_read}
use Rattle.treefs_model.specs.Trees.{counted, has_name, live_count}

one_more : (n : ℕ) (es : List Entry) (e : Entry) → live_count n (es ++ e ∷ []) ≡ live_count n es + counted n e
one_more n es e = let both = sum_by-append (counted n) es (e ∷ []) in let one = sum_by-cons (counted n) e [] in omega arith

pub made_counted : (bytes : List ℕ) (e : Entry) (n : ℕ) → All IsByte bytes → Fits e → IsTrue (is_whole bytes) → live_count n (entries_of (made bytes e)) ≡ live_count n (entries_of bytes) + counted n e
made_counted bytes e n range fits clear = ap (live_count n) (made_read bytes e range fits clear) ∙ one_more n (entries_of bytes) e

among : (n : ℕ) (a b : List Entry) (e : Entry) → live_count n (a ++ e ∷ b) ≡ live_count n a + (counted n e + live_count n b)
among n a b e = let both = sum_by-append (counted n) a (e ∷ b) in let one = sum_by-cons (counted n) e b in omega arith

pub set_counted : (bytes : List ℕ) (r : Record) (number n : ℕ) → All IsByte bytes → Contains (records_of bytes) r → number < 2 ^ 32 →
    live_count n (entries_of (with_number bytes r.offset number)) + counted n r.entry ≡ live_count n (entries_of bytes) + counted n (numbered r.entry number)
set_counted bytes r number n range there few =
    let s = renumbered_entries bytes r number range there few in
    let new = ap (live_count n) s.new ∙ among n s.before s.behind (numbered r.entry number) in
    let old = ap (live_count n) s.old ∙ among n s.before s.behind r.entry in
    omega arith

live_counted : (n : ℕ) (es : List Entry) → live_count n (filter is_live es) ≡ live_count n es
live_counted n [] = refl
live_counted n (e ∷ es) = by (is_live e) refl (live_counted n es)
  where
    by : (b : Bool) → is_live e ≡ b → live_count n (filter is_live es) ≡ live_count n es → live_count n (filter is_live (e ∷ es)) ≡ live_count n (e ∷ es)
    by true h rest =
        let new = sum_by-cons (counted n) e (filter is_live es) in
        let old = sum_by-cons (counted n) e es in
        ap (λ b. live_count n (cond b (e ∷ filter is_live es) (filter is_live es))) h ∙ omega arith
    by false h rest =
        let old = sum_by-cons (counted n) e es in
        let none : counted n e ≡ 0 = ap (λ b. cond (b && (e.number == n)) 1 0) h in
        ap (λ b. live_count n (cond b (e ∷ filter is_live es) (filter is_live es))) h ∙ omega arith

pub rewritten_counted : (bytes : List ℕ) (n : ℕ) → All IsByte bytes → live_count n (entries_of (put bytes 0 (rewritten bytes))) ≡ live_count n (entries_of bytes)
rewritten_counted bytes n range = ap (live_count n) (rewritten_read bytes range) ∙ live_counted n (entries_of bytes)

-- Names

pub made_named : (bytes : List ℕ) (e : Entry) (name : List ℕ) → All IsByte bytes → Fits e → IsTrue (is_whole bytes) →
    has_name (entries_of (made bytes e)) name ≡ (has_name (entries_of bytes) name || bytes_eq e.name name)
made_named bytes e name range fits clear =
    ap (λ es. has_name es name) (made_read bytes e range fits clear) ∙ (list_any-append (λ x. bytes_eq x.name name) (entries_of bytes) (e ∷ []) ∙ ap (λ b. has_name (entries_of bytes) name || b) (last (bytes_eq e.name name)))
  where
    last : (b : Bool) → (b || false) ≡ b
    last true = refl
    last false = refl

pub set_named : (bytes : List ℕ) (r : Record) (number : ℕ) (name : List ℕ) → All IsByte bytes → Contains (records_of bytes) r → number < 2 ^ 32 →
    has_name (entries_of (with_number bytes r.offset number)) name ≡ has_name (entries_of bytes) name
set_named bytes r number name range there few =
    let s = renumbered_entries bytes r number range there few in
    let test = λ (x : Entry). bytes_eq x.name name in
    ap (λ es. has_name es name) s.new
    ∙ (list_any-append test s.before (numbered r.entry number ∷ s.behind)
    ∙ (sym (list_any-append test s.before (r.entry ∷ s.behind)) ∙ sym (ap (λ es. has_name es name) s.old)))
