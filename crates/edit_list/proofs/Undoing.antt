-- What stands in a block after patches, and after the patches that undo them.
use Rattle.std.proofs.Common.{◌≡◌, ℕ, zero, suc, ◌+◌, ◌-◌, ◌<◌, ◌≤◌, true, ltb, leb, ◌&&◌, List, [], ◌∷◌, length, drop, get_or, refl, sym, ◌∙◌, ap, arith, ◌⊎◌, inl, inr, ⊎_elim, length-drop}
use Rattle.std.specs.Prelude.{sum_by}
use Rattle.std.specs.List.{list_all}
use Rattle.std.proofs.lemmas.Bool.{and_parts, and_from, leb-true}
use Rattle.std.proofs.lemmas.Bool.Decides.{leb_tells}
use Rattle.std.proofs.lemmas.List.{ext_get_or, length-map, length-take-le, get_or-take, get_or-drop}
use Rattle.std.proofs.lemmas.List.Sums.{sum_by-cons}
use Rattle.xn_model.specs.Lists.{put}
use Rattle.xn_model.specs.Calls.{Patch, Edit, patched, is_patch, within_limits}
use Rattle.edit_list.specs.Undo.{undo_at, undo_of}
use Rattle.edit_list.proofs.Puts.{length-put, put_inside, put_outside}

-- the patch covers byte k, or one of the patches does
abbrev Covers : Patch → ℕ → Type 0
Covers p k = (p.offset ≤ k) × (k < p.offset + length p.bytes)

abbrev Misses : Patch → ℕ → Type 0
Misses p k = (k < p.offset) ⊎ (p.offset + length p.bytes ≤ k)

abbrev SomeCovers : List Patch → ℕ → Type 0
SomeCovers [] k = ⊥
SomeCovers (p ∷ ps) k = Covers p k ⊎ SomeCovers ps k

covers_or_misses : (p : Patch) (k : ℕ) → Covers p k ⊎ Misses p k
covers_or_misses p k =
    ⊎_elim
    (λ low. ⊎_elim (λ behind. inr (inr behind.1)) (λ high. inl (low.1, high.1)) (leb_tells (p.offset + length p.bytes) k))
    (λ before. inr (inl before.1))
    (leb_tells p.offset k)

patch_fits : (p : Patch) → is_patch p ≡ true → p.offset + length p.bytes ≤ 512
patch_fits p is = leb-true (p.offset + length p.bytes) 512 (and_parts (ltb 0 (length p.bytes)) (leb (p.offset + length p.bytes) 512) is).1

-- patches leave the bytes that they do not cover
length-patched : (x : List ℕ) (ps : List Patch) → length x ≡ 512 → list_all is_patch ps ≡ true → length (patched x ps) ≡ 512
length-patched x [] long all = long
length-patched x (p ∷ ps) long all =
    let parts = and_parts (is_patch p) (list_all is_patch ps) all in
    let fits = patch_fits p parts.0 in
    length-patched (put x p.offset p.bytes) ps (length-put x p.offset p.bytes (omega arith) ∙ long) parts.1

kept_or_covered : (x : List ℕ) (ps : List Patch) (k : ℕ) → length x ≡ 512 → list_all is_patch ps ≡ true →
    (get_or (patched x ps) k 0 ≡ get_or x k 0) ⊎ SomeCovers ps k
kept_or_covered x [] k long all = inl refl
kept_or_covered x (p ∷ ps) k long all =
    let parts = and_parts (is_patch p) (list_all is_patch ps) all in
    let fits = patch_fits p parts.0 in
    let fit : p.offset + length p.bytes ≤ length x = omega arith in
    let rest = kept_or_covered (put x p.offset p.bytes) ps k (length-put x p.offset p.bytes fit ∙ long) parts.1 in
    ⊎_elim
    (λ here. inr (inl here))
    (λ out. ⊎_elim (λ kept. inl (kept ∙ put_outside x p.offset p.bytes fit k out)) (λ covered. inr (inr covered)) rest)
    (covers_or_misses p k)

-- a patch that undoes another is as long, and so lies within the block too
pub length-there : (m : List ℕ) (p : Patch) → length m ≡ 512 → is_patch p ≡ true → length (undo_at m p).bytes ≡ length p.bytes
length-there m p long is =
    let fits = patch_fits p is in
    let rest = length-drop p.offset m in
    length-take-le (length p.bytes) (drop p.offset m) (omega arith)

undo_is_patch : (m : List ℕ) (p : Patch) → length m ≡ 512 → is_patch p ≡ true → is_patch (undo_at m p) ≡ true
undo_is_patch m p long is = ap (λ n. ltb 0 n && leb (p.offset + n) 512) (length-there m p long is) ∙ is

pub undo_are_patches : (m : List ℕ) (ps : List Patch) → length m ≡ 512 → list_all is_patch ps ≡ true → list_all is_patch (undo_of m ps) ≡ true
undo_are_patches m [] long all = refl
undo_are_patches m (p ∷ ps) long all =
    let parts = and_parts (is_patch p) (list_all is_patch ps) all in
    and_from (is_patch (undo_at m p)) (list_all is_patch (undo_of m ps)) (undo_is_patch m p long parts.0) (undo_are_patches m ps long parts.1)

-- and it writes the bytes of the block
undo_inside : (m x : List ℕ) (p : Patch) (k : ℕ) → length m ≡ 512 → length x ≡ 512 → is_patch p ≡ true → Covers p k →
    get_or (put x p.offset (undo_at m p).bytes) k 0 ≡ get_or m k 0
undo_inside m x p k long same is here =
    let fits = patch_fits p is in
    let there = length-there m p long is in
    let back : p.offset + (k - p.offset) ≡ k = omega arith in
    put_inside x p.offset (undo_at m p).bytes (omega arith) k here.0 (omega arith)
    ∙ (get_or-take (length p.bytes) (drop p.offset m) (k - p.offset) 0 (omega arith)
    ∙ (get_or-drop p.offset m (k - p.offset) 0 ∙ ap (λ j. get_or m j 0) back))

undo_outside : (m x : List ℕ) (p : Patch) (k : ℕ) → length m ≡ 512 → length x ≡ 512 → is_patch p ≡ true → Misses p k →
    get_or (put x p.offset (undo_at m p).bytes) k 0 ≡ get_or x k 0
undo_outside m x p k long same is out =
    let fits = patch_fits p is in
    let there = length-there m p long is in
    put_outside x p.offset (undo_at m p).bytes (omega arith) k (⊎_elim inl (λ behind. inr (omega arith)) out)

-- where byte k is the block's, or one of the patches covers it, it is the block's after the undoing
one_undone : (m x : List ℕ) (p : Patch) (ps : List Patch) (k : ℕ) → length m ≡ 512 → length x ≡ 512 → is_patch p ≡ true →
    (get_or x k 0 ≡ get_or m k 0) ⊎ SomeCovers (p ∷ ps) k → (get_or (put x p.offset (undo_at m p).bytes) k 0 ≡ get_or m k 0) ⊎ SomeCovers ps k
one_undone m x p ps k long same is given =
    let written = λ (here : Covers p k). undo_inside m x p k long same is here in
    let kept = λ (out : Misses p k). undo_outside m x p k long same is out in
    ⊎_elim
    (λ here. inl (written here))
    (λ out. ⊎_elim (λ e. inl (kept out ∙ e)) (⊎_elim (λ here. inl (written here)) (λ covered. inr covered)) given)
    (covers_or_misses p k)

restored : (m x : List ℕ) (ps : List Patch) (k : ℕ) → length m ≡ 512 → length x ≡ 512 → list_all is_patch ps ≡ true →
    (get_or x k 0 ≡ get_or m k 0) ⊎ SomeCovers ps k → get_or (patched x (undo_of m ps)) k 0 ≡ get_or m k 0
restored m x [] k long same all given = ⊎_elim (λ e. e) (λ none. absurd none) given
restored m x (p ∷ ps) k long same all given =
    let parts = and_parts (is_patch p) (list_all is_patch ps) all in
    let fits = patch_fits p parts.0 in
    let there = length-there m p long parts.0 in
    let after = length-put x p.offset (undo_at m p).bytes (omega arith) ∙ same in
    restored m (put x p.offset (undo_at m p).bytes) ps k long after parts.1 (one_undone m x p ps k long same parts.0 given)

pub undone : (m : List ℕ) (ps : List Patch) → length m ≡ 512 → list_all is_patch ps ≡ true → patched (patched m ps) (undo_of m ps) ≡ m
undone m ps long all =
    let same = length-patched m ps long all in
    let back = length-patched (patched m ps) (undo_of m ps) same (undo_are_patches m ps long all) in
    ext_get_or 0 (patched (patched m ps) (undo_of m ps)) m (back ∙ sym long)
    (λ k lt. restored m (patched m ps) ps k long same all (kept_or_covered m ps k long all))

-- the patches of an edit within the limits, and those that undo it
pub patches_of_edit : (edit : Edit) → within_limits edit ≡ true → list_all is_patch edit.patches ≡ true
patches_of_edit edit within =
    let behind = and_parts (ltb 0 (length edit.patches) && leb (length edit.patches) 8) _ within in
    let bytes = and_parts (list_all is_patch edit.patches && leb (sum_by (λ p. length p.bytes) edit.patches) 512) _ behind.1 in
    (and_parts (list_all is_patch edit.patches) _ bytes.0).0

pub same_total : (m : List ℕ) (ps : List Patch) → length m ≡ 512 → list_all is_patch ps ≡ true →
    sum_by (λ p. length p.bytes) (undo_of m ps) ≡ sum_by (λ p. length p.bytes) ps
same_total m [] long all = refl
same_total m (p ∷ ps) long all =
    let parts = and_parts (is_patch p) (list_all is_patch ps) all in
    let here = length-there m p long parts.0 in
    let rest = same_total m ps long parts.1 in
    sum_by-cons (λ p. length p.bytes) (undo_at m p) (undo_of m ps) ∙ ((λ i. here i + rest i) ∙ sym (sum_by-cons (λ p. length p.bytes) p ps))

pub undo_within_limits : (m : List ℕ) (edit : Edit) → length m ≡ 512 → within_limits edit ≡ true → within_limits (record edit { patches = undo_of m edit.patches }) ≡ true
undo_within_limits m edit long within =
    let all = patches_of_edit edit within in
    let count = length-map edit.patches (undo_at m) in
    let are = undo_are_patches m edit.patches long all ∙ sym all in
    let bytes = same_total m edit.patches long all in
    (λ i. (ltb 0 (count i) && leb (count i) 8) && ((are i && leb (bytes i) 512) && (leb (length edit.adds) 16 && leb (length edit.drops) 128)))
    ∙ within

-- one of some patches is one
pub patch_at : (ps : List Patch) (i : ℕ) (p : Patch) → i < length ps → p ≡ get_or ps i p → list_all is_patch ps ≡ true → is_patch p ≡ true
patch_at [] i p within is all = absurd (omega arith)
patch_at (q ∷ ps) zero p within is all = ap is_patch is ∙ (and_parts (is_patch q) (list_all is_patch ps) all).0
patch_at (q ∷ ps) (suc i) p within is all = patch_at ps i p (omega arith) is (and_parts (is_patch q) (list_all is_patch ps) all).1

-- what undoes one patch alone
pub undo_of_one : (m : List ℕ) (ps : List Patch) (p : Patch) → length ps ≡ 1 → p ≡ get_or ps 0 p → undo_at m p ∷ [] ≡ undo_of m ps
undo_of_one m [] p one is = absurd (omega (arith, one))
undo_of_one m (q ∷ []) p one is = ap (λ (r : Patch). undo_at m r ∷ []) is
undo_of_one m (q ∷ r ∷ ps) p one is = absurd (omega (arith, one))
