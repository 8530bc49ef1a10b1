-- Bytes with zeros at some pointers: one patch from the first of them to the last writes them.
use Rattle.std.proofs.Common.{◌≡◌, ℕ, ◌+◌, ◌-◌, ◌≤◌, List, [], ◌∷◌, ◌++◌, length, take, drop, refl, sym, ◌∙◌, ap, inl, inr, arith, append_assoc}
use Rattle.std.specs.Prelude.{⊤, All, map}
use Rattle.std.proofs.lemmas.List.{drop-drop, length-drop, length-take-le, take-append-drop, take_all}
use Rattle.std.proofs.lemmas.List.Elements.{All-cons, All-head, All-nil, All-tail, All-weaker}
use Rattle.xn_model.specs.BareDisks.{zeros}
use Rattle.xn_model.specs.Calls.{patched}
use Rattle.xn_model.specs.Lists.{put}
use Rattle.xn_model.proofs.ForCallers.{bytes_apart, length_put}
use Rattle.treefs.specs.Reaping.{cleared, freed_patch, last_offset}
use Rattle.treefs.specs.declared.reap_plan.Freed.{Freed}
use Rattle.treefs_values.specs.Dropped.{zero_patch}

-- the places of their pointers
abbrev pub freed_place : Freed → ℕ × ℕ
freed_place f = (f.offset, 1)

pub cleared_patched : (m : List ℕ) (freed : List Freed) → cleared m freed ≡ patched m (map zero_patch (map freed_place freed))
cleared_patched m [] = refl
cleared_patched m (f ∷ freed) = cleared_patched (put m f.offset (zeros 4)) freed

-- Offsets that rise

abbrev pub AreRising : ℕ → List Freed → Type 0
AreRising from [] = ⊤
AreRising from (f ∷ freed) = (from ≤ f.offset) × AreRising f.offset freed

rising_from : (from : ℕ) (freed : List Freed) → AreRising from freed → All (λ (f : Freed). from ≤ f.offset) freed
rising_from from [] rises = All-nil (λ (f : Freed). from ≤ f.offset)
rising_from from (f ∷ freed) rises = All-cons (λ (f : Freed). from ≤ f.offset) f freed rises.0
    (All-weaker (λ (g : Freed). f.offset ≤ g.offset) (λ (g : Freed). from ≤ g.offset) (λ g le. let first = rises.0 in omega arith) freed
    (rising_from f.offset freed rises.1))

rising_to : (from : ℕ) (freed : List Freed) → AreRising from freed →
    (from ≤ last_offset from freed) × All (λ (f : Freed). f.offset ≤ last_offset from freed) freed
rising_to from [] rises = (omega arith, All-nil (λ (f : Freed). f.offset ≤ from))
rising_to from (f ∷ freed) rises =
    let r = rising_to f.offset freed rises.1 in
    let a = rises.0 in
    let b = r.0 in
    (omega arith, All-cons (λ (g : Freed). g.offset ≤ last_offset f.offset freed) f freed r.0 r.1)

last_small : (bound from : ℕ) (freed : List Freed) → from ≤ bound → All (λ (f : Freed). f.offset ≤ bound) freed → last_offset from freed ≤ bound
last_small bound from [] low all = low
last_small bound from (f ∷ freed) low all = last_small bound f.offset freed (All-head (λ (f : Freed). f.offset ≤ bound) f freed all)
    (All-tail (λ (f : Freed). f.offset ≤ bound) f freed all)

-- What stays

one_fits : (m : List ℕ) (o : ℕ) → length m ≡ 512 → o + 4 ≤ 512 → o + length (zeros 4) ≤ length m
one_fits m o long fits = omega arith

long_still : (m : List ℕ) (f : Freed) → length m ≡ 512 → f.offset + 4 ≤ 512 → length (put m f.offset (zeros 4)) ≡ 512
long_still m f long fits = length_put m f.offset (zeros 4) (one_fits m f.offset long fits) ∙ long

abbrev Within : ℕ → Freed → Type 0
Within end f = f.offset + 4 ≤ end

cleared_long : (m : List ℕ) (freed : List Freed) → length m ≡ 512 → All (Within 512) freed → length (cleared m freed) ≡ 512
cleared_long m [] long all = long
cleared_long m (f ∷ freed) long all =
    cleared_long (put m f.offset (zeros 4)) freed (long_still m f long (All-head (Within 512) f freed all)) (All-tail (Within 512) f freed all)

cleared_front : (m : List ℕ) (freed : List Freed) (k : ℕ) → length m ≡ 512 → All (Within 512) freed → All (λ (f : Freed). k ≤ f.offset) freed →
    take k (cleared m freed) ≡ take k m
cleared_front m [] k long all low = refl
cleared_front m (f ∷ freed) k long all low =
    let fits = All-head (Within 512) f freed all in
    let le : k ≤ f.offset = All-head (λ (f : Freed). k ≤ f.offset) f freed low in
    cleared_front (put m f.offset (zeros 4)) freed k (long_still m f long fits) (All-tail (Within 512) f freed all)
    (All-tail (λ (f : Freed). k ≤ f.offset) f freed low)
    ∙ bytes_apart m f.offset (zeros 4) (one_fits m f.offset long fits) k 0 (inl (omega arith))

cleared_back : (m : List ℕ) (freed : List Freed) (e : ℕ) → length m ≡ 512 → e ≤ 512 → All (Within e) freed → drop e (cleared m freed) ≡ drop e m
cleared_back m [] e long small all = refl
cleared_back m (f ∷ freed) e long small all =
    let le : f.offset + 4 ≤ e = All-head (Within e) f freed all in
    let fits : f.offset + 4 ≤ 512 = omega arith in
    let m' : List ℕ = put m f.offset (zeros 4) in
    let long' : length m' ≡ 512 = long_still m f long fits in
    let rest = length-drop e m in
    let rest' = length-drop e m' in
    cleared_back m' freed e long' small (All-tail (Within e) f freed all)
    ∙ (sym (take_all (512 - e) (drop e m') (omega arith))
    ∙ (bytes_apart m f.offset (zeros 4) (one_fits m f.offset long fits) (512 - e) e (inr le)
    ∙ take_all (512 - e) (drop e m) (omega arith)))

-- a part that is put back
put_part : (m m' : List ℕ) (a n : ℕ) → a + n ≤ length m' → take a m' ≡ take a m → drop (a + n) m' ≡ drop (a + n) m → put m a (take n (drop a m')) ≡ m'
put_part m m' a n fits front back =
    let rest = length-drop a m' in
    let long : length (take n (drop a m')) ≡ n = length-take-le n (drop a m') (omega arith) in
    let part : List ℕ = take n (drop a m') in
    let joined : part ++ drop (a + n) m' ≡ drop a m' = ap (λ x. part ++ x) (sym (drop-drop n a m')) ∙ take-append-drop n (drop a m') in
    ap (λ l. take a m ++ part ++ drop (a + l) m) long
    ∙ ((λ j. sym front j ++ part ++ sym back j)
    ∙ (append_assoc (take a m') part (drop (a + n) m') ∙ (ap (λ x. take a m' ++ x) joined ∙ take-append-drop a m')))

-- the patch of some pointers writes all of them
pub patch_clears : (m : List ℕ) (freed : List Freed) → length m ≡ 512 → AreRising 0 freed → All (Within 512) freed →
    put m (freed_patch freed (cleared m freed)).offset (freed_patch freed (cleared m freed)).bytes ≡ cleared m freed
patch_clears m [] long rises all = put_part m m 0 4 (omega arith) refl refl
patch_clears m (f ∷ freed) long rises all =
    let to = rising_to f.offset freed rises.1 in
    let last : ℕ = last_offset f.offset freed in
    let up : f.offset ≤ last = to.0 in
    let within = All-head (Within 512) f freed all in
    let small : last ≤ 508 = last_small 508 f.offset freed (omega arith)
    (All-weaker (Within 512) (λ (g : Freed). g.offset ≤ 508) (λ g fits. omega arith) freed (All-tail (Within 512) f freed all)) in
    let ends : All (Within (last + 4)) (f ∷ freed) = All-cons (Within (last + 4)) f freed (omega arith)
    (All-weaker (λ (g : Freed). g.offset ≤ last) (Within (last + 4)) (λ g le. omega arith) freed to.1) in
    let n : ℕ = last + 4 - f.offset in
    let sum : f.offset + n ≡ last + 4 = omega arith in
    let m' : List ℕ = cleared m (f ∷ freed) in
    let long' : length m' ≡ 512 = cleared_long m (f ∷ freed) long all in
    put_part m m' f.offset n (omega arith)
    (cleared_front m (f ∷ freed) f.offset long all
    (All-cons (λ (g : Freed). f.offset ≤ g.offset) f freed (omega arith) (rising_from f.offset freed rises.1)))
    (ap (λ e. drop e m') sum ∙ (cleared_back m (f ∷ freed) (last + 4) long (omega arith) ends ∙ sym (ap (λ e. drop e m) sum)))
