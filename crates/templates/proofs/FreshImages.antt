-- The bytes of a fresh image, one part after another.
use Rattle.std.proofs.Common.{◌≡◌, ℕ, zero, suc, ◌+◌, ◌-◌, ◌*◌, ◌≤◌, ◌<◌, ◌∙◌, ap, sym, refl, List, [], ◌∷◌, ◌++◌, length, map, get_or, take, replicate, append_assoc, length-append, arith}
use Rattle.std.specs.Int.{w32, to_le_bytes}
use Rattle.std.specs.List.{flat_map, range_with_len}
use Rattle.std.proofs.lemmas.List.{take_all, replicate-append-replicate, append-nil, take_more, flat_map_more}
use Rattle.std.proofs.lemmas.List.Concat.{flat_map-append}
use Rattle.xn_model.specs.BareDisks.{zeros}
use Rattle.templates.proofs.Ranges.{range-more}
use Rattle.templates.specs.Templates.{TemplateValue, template_bytes}
use Rattle.templates.specs.RootFields.{root_mark}
use Rattle.xn_model.specs.Images.{joined}
use Rattle.templates.specs.Formats.{pointer_bytes, formatted_root, formatted}

-- Block 0

pub pointer_bytes-more : (n : ℕ) → pointer_bytes (n + 1) ≡ pointer_bytes n ++ to_le_bytes w32 (1 + n)
pointer_bytes-more n =
    let next : n + 1 ≡ suc n = omega arith in
    ap pointer_bytes next ∙ (ap (flat_map (to_le_bytes w32)) (range-more 1 n) ∙ (flat_map-append (to_le_bytes w32) (range_with_len 1 n) ((1 + n) ∷ []) ∙ ap (λ l. pointer_bytes n ++ l) (append-nil (to_le_bytes w32 (1 + n)))))

pub length-pointer_bytes : (n : ℕ) → length (pointer_bytes n) ≡ 4 * n
length-pointer_bytes zero = refl
length-pointer_bytes (suc n) =
    let next : suc n ≡ n + 1 = omega arith in
    let ih = length-pointer_bytes n in
    ap (λ k. length (pointer_bytes k)) next ∙ (ap length (pointer_bytes-more n) ∙ (length-append (pointer_bytes n) (to_le_bytes w32 (1 + n)) ∙ omega arith))

-- the mark, the count, and n pointers
abbrev pub root_front : ℕ → ℕ → List ℕ
root_front count n = root_mark ++ (to_le_bytes w32 count ++ pointer_bytes n)

pub root_front-more : (count n : ℕ) → root_front count (n + 1) ≡ root_front count n ++ to_le_bytes w32 (1 + n)
root_front-more count n = ap (λ l. root_mark ++ (to_le_bytes w32 count ++ l)) (pointer_bytes-more n)
    ∙ (ap (λ l. root_mark ++ l) (sym (append_assoc (to_le_bytes w32 count) (pointer_bytes n) (to_le_bytes w32 (1 + n))))
    ∙ sym (append_assoc root_mark (to_le_bytes w32 count ++ pointer_bytes n) (to_le_bytes w32 (1 + n))))

pub length-root_front : (count n : ℕ) → length (root_front count n) ≡ 8 + 4 * n
length-root_front count n = let p = length-pointer_bytes n in omega arith

pub root_filled : (count n : ℕ) (old : List ℕ) (len : ℕ) → n ≤ 16 → old ≡ root_front count n → len ≡ length old → take 512 old ++ zeros (512 - len) ≡ formatted_root count n
unfolding formatted_root
root_filled count n old len few is has =
    let p = ap length is ∙ length-root_front count n in
    let whole = take_all 512 old (omega arith) ∙ is in
    let rest : 512 - len ≡ 504 - 4 * n = omega arith in
    (λ i. whole i ++ zeros (rest i)) ∙ (append_assoc root_mark (to_le_bytes w32 count ++ pointer_bytes n) (zeros (504 - 4 * n))
    ∙ ap (λ l. root_mark ++ l) (append_assoc (to_le_bytes w32 count) (pointer_bytes n) (zeros (504 - 4 * n))))

-- All blocks

zeros_joined : (n : ℕ) → joined (replicate n (zeros 512)) ≡ zeros (512 * n)
zeros_joined zero = refl
zeros_joined (suc n) =
    let next : 512 + 512 * n ≡ 512 * suc n = omega arith in
    ap (λ ys. zeros 512 ++ ys) (zeros_joined n) ∙ (replicate-append-replicate 512 (512 * n) 0 ∙ ap zeros next)

joined-map : (ts : List TemplateValue) → joined (map template_bytes ts) ≡ flat_map template_bytes ts
joined-map [] = refl
joined-map (t ∷ ts) = ap (λ ys. template_bytes t ++ ys) (joined-map ts)

-- block 0 and the templates' blocks
abbrev pub image_front : ℕ → List TemplateValue → List TemplateValue → List ℕ
image_front count all written = formatted_root count (length all) ++ flat_map template_bytes written

pub image_filled : (count : ℕ) (ts : List TemplateValue) (old : List ℕ) (len : ℕ) → 32 ≤ count → length ts ≤ 16 → old ≡ image_front count ts ts → len ≡ length old → len ≡ 512 * (1 + length ts) →
    take (512 * count) old ++ zeros (512 * count - len) ≡ joined (formatted count ts)
unfolding formatted
image_filled count ts old len some few is has whole =
    let n = length ts in
    let all = take_all (512 * count) old (omega arith) ∙ is in
    let rest : 512 * count - len ≡ 512 * (count - 1 - n) = omega arith in
    let tail : zeros (512 * count - len) ≡ joined (replicate (count - 1 - n) (zeros 512)) = ap zeros rest ∙ sym (zeros_joined (count - 1 - n)) in
    (λ i. all i ++ tail i)
    ∙ (append_assoc (formatted_root count n) (flat_map template_bytes ts) (joined (replicate (count - 1 - n) (zeros 512)))
    ∙ ap (λ l. formatted_root count n ++ l) (ap (λ l. l ++ joined (replicate (count - 1 - n) (zeros 512))) (sym (joined-map ts))
    ∙ sym (flat_map-append (λ block. block) (map template_bytes ts) (replicate (count - 1 - n) (zeros 512)))))

pub image_front-more : (count : ℕ) (all : List TemplateValue) (i : ℕ) (t : TemplateValue) → i < length all → t ≡ get_or all i t →
    image_front count all (take i all) ++ template_bytes t ≡ image_front count all (take (i + 1) all)
image_front-more count all i t more is =
    flat_map_more template_bytes (formatted_root count (length all)) (take i all) t
    ∙ ap (image_front count all) (sym (take_more all i t more ∙ ap (λ x. take i all ++ x ∷ []) (sym is)))
