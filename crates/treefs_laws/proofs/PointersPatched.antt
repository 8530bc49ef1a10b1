-- Pointers that stand side by side are set by one edit, or one after another: the bytes are the same.
use mathlib.Core.Path.{fun_ext}
use Rattle.std.proofs.Common.{◌≡◌, ℕ, zero, suc, ◌+◌, ◌-◌, ◌*◌, ◌<◌, ◌≤◌, Bool, true, false, List, [], ◌∷◌, ◌++◌, length, take, drop, None, refl, sym, ◌∙◌, ap, inl, inr, arith, subst, append_assoc, append-nil, length-append, length-drop, length-take-le, if◌then◌else◌}
use Rattle.std.specs.Prelude.{◌==◌}
use Rattle.std.specs.Int.{to_le_bytes, w32}
use Rattle.std.proofs.Math.Seq.{drop-append-add, take-append_seam}
use Rattle.std.proofs.lemmas.Bool.{cases_eq, eq-eqb, ne_eqb}
use Rattle.std.proofs.lemmas.List.{drop-drop, take-append-drop}
use Rattle.xn_model.specs.Calls.{Patch, patched}
use Rattle.xn_model.specs.Lists.{put}
use Rattle.treefs_format.specs.Nodes.{pointers_patch}
use Rattle.treefs_format.specs.Numbers.{word_bytes}
use Rattle.treefs_model.specs.Acts.{Act, attach_act, patch_act}
use Rattle.treefs_edits.specs.Written.{all_written, written}
use Rattle.treefs_byte_plans.specs.Runs.{attach_acts}

-- Lists

put_twice : (m xs ys : List ℕ) (a : ℕ) → a + length xs + length ys ≤ length m → put (put m a xs) (a + length xs) ys ≡ put m a (xs ++ ys)
put_twice m xs ys a fits =
    (λ j. first j ++ ys ++ last j)
    ∙ ((λ j. append_assoc (take a m) xs ys j ++ drop (a + length xs + length ys) m) ∙ ap (λ k. take a m ++ (xs ++ ys) ++ drop k m) whole)
  where
    long : length (take a m ++ xs) ≡ a + length xs
    long = length-append (take a m) xs ∙ ap (λ k. k + length xs) (length-take-le a m (omega arith))

    first : take (a + length xs) (put m a xs) ≡ take a m ++ xs
    first = ap (λ k. take k (put m a xs)) (sym long) ∙ take-append_seam (take a m ++ xs) (drop (a + length xs) m)

    last : drop (a + length xs + length ys) (put m a xs) ≡ drop (a + length xs + length ys) m
    last =
        ap (λ k. drop (k + length ys) (put m a xs)) (sym long)
        ∙ (drop-append-add (take a m ++ xs) (drop (a + length xs) m) (length ys) ∙ drop-drop (length ys) (a + length xs) m)

    whole : a + length xs + length ys ≡ a + length (xs ++ ys)
    whole = let l = length-append xs ys in omega arith

put_none : (m : List ℕ) (a : ℕ) → put m a [] ≡ m
put_none m a =
    ap (λ l. l ++ drop (a + length {A = ℕ} []) m) (append-nil (take a m)) ∙ (ap (λ k. take a m ++ drop k m)
    (let e : a + length {A = ℕ} [] ≡ a = omega arith in e) ∙ take-append-drop a m)

length_put : (m bytes : List ℕ) (a : ℕ) → a + length bytes ≤ length m → length (put m a bytes) ≡ length m
length_put m bytes a fits =
    let front = length-take-le a m (omega arith) in
    let back = length-drop (a + length bytes) m in
    length-append (take a m ++ bytes) (drop (a + length bytes) m)
    ∙ (ap (λ l. l + length (drop (a + length bytes) m)) (length-append (take a m) bytes) ∙ omega arith)

-- Pointers of one block

module _ (h : ℕ) where
  -- one after another
  abbrev pub attach_each : ℕ → List ℕ → (ℕ → List ℕ) → ℕ → List ℕ
  attach_each o [] m = m
  attach_each o (z ∷ zs) m = attach_each (o + 4) zs (written (attach_act h o 2 (z ∷ []) None) m)

  one_long : (o z : ℕ) (m : ℕ → List ℕ) → o + 4 ≤ length (m h) → length (written (attach_act h o 2 (z ∷ []) None) m h) ≡ length (m h)
  one_long o z m fits =
      ap (λ t. length (if t then patched (m h) (pointers_patch o (z ∷ []) ∷ []) else m h)) (eq-eqb h h refl)
      ∙ length_put (m h) (word_bytes (z ∷ [])) o (let four : length (word_bytes (z ∷ [])) ≡ 4 = refl in omega arith)

  -- some pointers have a place there
  abbrev pub Fits : ℕ → List ℕ → (ℕ → List ℕ) → Type 0
  Fits o zs m = 0 < length zs → o + 4 * length zs ≤ length (m h)

  pub each_long : (zs : List ℕ) (o : ℕ) (m : ℕ → List ℕ) → Fits o zs m → length (attach_each o zs m h) ≡ length (m h)
  each_long [] o m fits = refl
  each_long (z ∷ zs) o m fits =
      let all = fits (omega arith) in
      let one = one_long o z m (omega arith) in
      each_long zs (o + 4) (written (attach_act h o 2 (z ∷ []) None) m) (λ some. omega arith) ∙ one

  -- all by one edit
  two_parts : (z : ℕ) (zs : List ℕ) (o : ℕ) (bytes : List ℕ) → o + 4 + 4 * length zs ≤ length bytes → length (word_bytes zs) ≡ 4 * length zs →
      patched bytes (pointers_patch o (z ∷ zs) ∷ []) ≡ patched (patched bytes (pointers_patch o (z ∷ []) ∷ [])) (pointers_patch (o + 4) zs ∷ [])
  two_parts z zs o bytes fits long =
      let four : length (word_bytes (z ∷ [])) ≡ 4 = refl in
      sym (ap (λ k. put (put bytes o (word_bytes (z ∷ []))) k (word_bytes zs)) (let e : o + 4 ≡ o + length (word_bytes (z ∷ [])) = omega arith in e)
      ∙ put_twice bytes (word_bytes (z ∷ [])) (word_bytes zs) o (omega arith))

  words_long : (zs : List ℕ) → length (word_bytes zs) ≡ 4 * length zs
  words_long [] = refl
  words_long (z ∷ zs) = let four : length (to_le_bytes w32 z) ≡ 4 = refl in let rest = words_long zs in length-append (to_le_bytes w32 z) (word_bytes zs) ∙
      omega arith

  pub attach_many : (zs : List ℕ) (o : ℕ) (m : ℕ → List ℕ) → Fits o zs m → written (attach_act h o 2 zs None) m ≡ attach_each o zs m
  attach_many [] o m fits = fun_ext (λ x. by x (x == h))
    where
      by : (x : ℕ) (t : Bool) → (if t then patched (m x) (pointers_patch o [] ∷ []) else m x) ≡ m x
      by x true = put_none (m x) o
      by x false = refl
  attach_many (z ∷ zs) o m fits =
      let all = fits (omega arith) in
      let one = one_long o z m (omega arith) in
      fun_ext (λ x. elim (cases_eq x h) [
        | inl same ↦
            ap (λ t. if t then patched (m x) (pointers_patch o (z ∷ zs) ∷ []) else m x) (eq-eqb x h same)
            ∙ (two_parts z zs o (m x) (subst (λ y. o + 4 + 4 * length zs ≤ length (m y)) (sym same) (omega arith)) (words_long zs)
            ∙ sym (ap (λ t. if t then patched (if t then patched (m x) (pointers_patch o (z ∷ []) ∷ []) else m x) (pointers_patch (o + 4) zs ∷ [])
            else (if t then patched (m x) (pointers_patch o (z ∷ []) ∷ []) else m x)) (eq-eqb x h same)))
        | inr ne ↦
            ap (λ t. if t then patched (m x) (pointers_patch o (z ∷ zs) ∷ []) else m x) (ne_eqb x h ne)
            ∙ sym (ap (λ t. if t then patched (if t then patched (m x) (pointers_patch o (z ∷ []) ∷ []) else m x) (pointers_patch (o + 4) zs ∷ [])
            else (if t then patched (m x) (pointers_patch o (z ∷ []) ∷ []) else m x)) (ne_eqb x h ne))
      ])
      ∙ attach_many zs (o + 4) (written (attach_act h o 2 (z ∷ []) None) m) (λ some. omega arith)

  pub split_each : (k : ℕ) (zs : List ℕ) (o : ℕ) (m : ℕ → List ℕ) → attach_each (o + 4 * k) (drop k zs) (attach_each o (take k zs) m) ≡ attach_each o zs m
  split_each zero zs o m = ap (λ p. attach_each p zs m) (let e : o + 4 * 0 ≡ o = omega arith in e)
  split_each (suc k) [] o m = refl
  split_each (suc k) (z ∷ zs) o m =
      ap (λ p. attach_each p (drop k zs) (attach_each (o + 4) (take k zs) (written (attach_act h o 2 (z ∷ []) None) m)))
      (let e : o + 4 * suc k ≡ o + 4 + 4 * k = omega arith in e)
      ∙ split_each k zs (o + 4) (written (attach_act h o 2 (z ∷ []) None) m)

  -- by edits of 16 each, and others behind them
  pub attached_by : (n : ℕ) (zs : List ℕ) (o : ℕ) (m : ℕ → List ℕ) (rest : List Act) → length zs ≤ 16 * n → Fits o zs m →
      all_written (attach_acts n h o zs ++ rest) m ≡ all_written rest (attach_each o zs m)
  attached_by zero [] o m rest few fits = refl
  attached_by zero (z ∷ zs) o m rest few fits = absurd (omega arith)
  attached_by (suc n) zs o m rest few fits =
      let parts : length (take 16 zs) + length (drop 16 zs) ≡ length zs = sym (length-append (take 16 zs) (drop 16 zs)) ∙ ap length (take-append-drop 16 zs) in
      let back : length (drop 16 zs) ≡ length zs - 16 = length-drop 16 zs in
      let first : Fits o (take 16 zs) m = λ some. (let all = fits (omega arith) in omega arith) in
      let many = attach_many (take 16 zs) o m first in
      let long = each_long (take 16 zs) o m first in
      ap (λ c. all_written (attach_acts n h (o + 64) (drop 16 zs) ++ rest) c) many
      ∙ (attached_by n (drop 16 zs) (o + 64) (attach_each o (take 16 zs) m) rest (omega arith) (λ some. (let all = fits (omega arith) in omega arith))
      ∙ ap (all_written rest) (split_each 16 zs o m))

-- Patches behind pointers, by one edit
pub patches_behind : (act : Act) (o : ℕ) (zs : List ℕ) (ps : List Patch) (m : ℕ → List ℕ) → act.edit.patches ≡ pointers_patch o zs ∷ ps →
    written act m ≡ written (patch_act act.block ps None) (written (attach_act act.block o 2 zs None) m)
patches_behind act o zs ps m are = fun_ext (λ x. ap (λ l. if x == act.block then patched (m x) l else m x) are ∙ by x (x == act.block))
  where
    by : (x : ℕ) (t : Bool) → (if t then patched (m x) (pointers_patch o zs ∷ ps) else m x)
        ≡ (if t then patched (if t then patched (m x) (pointers_patch o zs ∷ []) else m x) ps else
        (if t then patched (m x) (pointers_patch o zs ∷ []) else m x))
    by x true = refl
    by x false = refl
