-- The words of an edit are cut in one way alone, since each kind of word begins with another byte.
use Rattle.std.proofs.Common.{◌≡◌, ℕ, ◌^◌, ◌<◌, ◌⊎◌, true, false, Option, Some, None, List, [], ◌∷◌, ◌++◌, length, map, arith, refl, sym, ap, ◌∙◌, subst, inl, inr, Bor, append_assoc}
use Rattle.std.specs.Fmt.{decimal}
use Rattle.std.specs.List.{All, AllZip}
use Rattle.std.proofs.lemmas.Bool.{false≢true, ne_eqb}
use Rattle.std.proofs.lemmas.Fmt.{decimal_nonempty}
use Rattle.std.proofs.lemmas.List.{length-map}
use Rattle.std.proofs.lemmas.List.Elements.{All-nil, All-cons, All-head, All-tail, All-append}
use Rattle.std.proofs.lemmas.Slice.Zip.{AllZip-long}
use Rattle.xn_model.specs.Calls as model
use Rattle.script.specs.Edits.{SpellsAfter, SpellsPatch, SpellsAdd, SpellsDrop, SpellsEdit}
use Rattle.script.specs.Cuts.{begins_with, first_begins_with, CutsAfter, NoneOrBegins, CutsBefore}
use Rattle.script.proofs.EditWords.{IsDigit, decimal_digits}

-- what each kind of word begins with

digits_begin : (byte : ℕ) (text rest : List ℕ) → 0 < length text → All IsDigit text → (byte < 48) ⊎ (57 < byte) → begins_with byte (text ++ rest) ≡ false
digits_begin byte [] rest some digits other = absurd (omega arith)
digits_begin byte (first ∷ text) rest some digits (inl low) = let digit = All-head IsDigit first text digits in ne_eqb first byte (λ e. absurd (omega arith))
digits_begin byte (first ∷ text) rest some digits (inr high) = let digit = All-head IsDigit first text digits in ne_eqb first byte (λ e. absurd (omega arith))

patch_begins : (byte : ℕ) → (byte < 48) ⊎ (57 < byte) → (word : List ℕ) (patch : model.Patch) → SpellsPatch word patch → begins_with byte word ≡ false
patch_begins byte other word patch spells =
    let small : patch.offset < 2 ^ 64 = omega (arith, spells.small) in
    ap (begins_with byte) spells.spelled ∙ digits_begin byte (decimal patch.offset) (61 ∷ spells.hex) (decimal_nonempty patch.offset small) (decimal_digits patch.offset small) other

add_begins : (word : List ℕ) (add : ℕ × ℕ) → SpellsAdd word add → begins_with 43 word ≡ true
add_begins word add spells = ap (begins_with 43) spells.spelled

add_begins_not : (word : List ℕ) (add : ℕ × ℕ) → SpellsAdd word add → begins_with 45 word ≡ false
add_begins_not word add spells = ap (begins_with 45) spells.spelled

drop_begins : (word : List ℕ) (block : ℕ) → SpellsDrop word block → begins_with 45 word ≡ true
drop_begins word block spells = ap (begins_with 45) spells.spelled

-- and each word of a list, and the first

all_words : {X : Type 0} (R : List ℕ → X → Type 0) (P : List ℕ → Type 0) → ((word : List ℕ) (item : X) → R word item → P word) →
    (words : List (List ℕ)) (items : List X) → AllZip R words items → All P words
all_words R P each [] [] spells = All-nil P
all_words R P each [] (item ∷ items) spells = absurd spells
all_words R P each (word ∷ words) [] spells = absurd spells
all_words R P each (word ∷ words) (item ∷ items) spells = All-cons P word words (each word item spells.0) (all_words R P each words items spells.1)

none_or_begins : {X : Type 0} (R : List ℕ → X → Type 0) (byte : ℕ) → ((word : List ℕ) (item : X) → R word item → begins_with byte word ≡ true) →
    (words : List (List ℕ)) (items : List X) → AllZip R words items → NoneOrBegins byte words
none_or_begins R byte each [] items spells = tt
none_or_begins R byte each (word ∷ words) [] spells = absurd spells
none_or_begins R byte each (word ∷ words) (item ∷ items) spells = each word item spells.0

patches_first : (words more : List (List ℕ)) (patches : List model.Patch) → AllZip SpellsPatch words patches → 0 < length patches → first_begins_with 64 (words ++ more) ≡ false
patches_first [] more [] spells some = absurd (omega arith)
patches_first [] more (patch ∷ patches) spells some = absurd spells
patches_first (word ∷ words) more [] spells some = absurd spells
patches_first (word ∷ words) more (patch ∷ patches) spells some = patch_begins 64 (inr (omega arith)) word patch spells.0

-- two cuts of one list

pub cut_once : (byte : ℕ) (front back xs ys : List (List ℕ)) → front ++ back ≡ xs ++ ys →
    All (λ word. begins_with byte word ≡ false) front → NoneOrBegins byte back → All (λ word. begins_with byte word ≡ false) xs → NoneOrBegins byte ys →
    (front ≡ xs) × (back ≡ ys)
cut_once byte [] back [] ys same before behind xs_before ys_behind = (refl, same)
cut_once byte [] back (x ∷ xs) ys same before behind xs_before ys_behind =
    let begins : begins_with byte x ≡ true = subst (NoneOrBegins byte) same behind in
    absurd (false≢true (sym (All-head (λ word. begins_with byte word ≡ false) x xs xs_before) ∙ begins))
cut_once byte (word ∷ front) back [] ys same before behind xs_before ys_behind =
    let begins : begins_with byte word ≡ true = subst (NoneOrBegins byte) (sym same) ys_behind in
    absurd (false≢true (sym (All-head (λ w. begins_with byte w ≡ false) word front before) ∙ begins))
cut_once byte (word ∷ front) back (x ∷ xs) ys same before behind xs_before ys_behind =
    let rest : front ++ back ≡ xs ++ ys = cc in
    let head : word ≡ x = cc in
    let tails = cut_once byte front back xs ys rest (All-tail (λ w. begins_with byte w ≡ false) word front before) behind (All-tail (λ w. begins_with byte w ≡ false) x xs xs_before) ys_behind in
    (let first : front ≡ xs = tails.0 in cc, tails.1)

-- the word of the entry that an edit waits for, and what stands behind it

after_spelled : (words rest : List (List ℕ)) (after : Option ℕ) → CutsAfter words after rest → (before : List (List ℕ)) × SpellsAfter before after × (words ≡ before ++ rest)
after_spelled words rest None cut = ([], refl, cut.0)
after_spelled words rest (Some n) cut = ((64 ∷ decimal n) ∷ [], (refl, cut.1), cut.0)

after_cut : (words before rest : List (List ℕ)) (after : Option ℕ) → SpellsAfter before after → words ≡ before ++ rest → first_begins_with 64 rest ≡ false → CutsAfter words after rest
after_cut words before rest None spells whole other =
    let same : words ≡ rest = whole ∙ ap (λ b. b ++ rest) spells in
    (same, ap (first_begins_with 64) same ∙ other)
after_cut words before rest (Some n) spells whole other = (whole ∙ ap (λ b. b ++ rest) spells.0, spells.1)

after_once : (words xs ys : List (List ℕ)) (m n : Option ℕ) → CutsAfter words m xs → CutsAfter words n ys → first_begins_with 64 xs ≡ false → xs ≡ ys
after_once words xs ys None None cut other _ = sym cut.0 ∙ other.0
after_once words xs ys None (Some n) cut other _ = absurd (false≢true (sym cut.1 ∙ ap (first_begins_with 64) other.0))
after_once words xs ys (Some m) None cut other _ = absurd (false≢true (sym other.1 ∙ ap (first_begins_with 64) cut.0))
after_once words xs ys (Some m) (Some n) cut other _ = let same : (64 ∷ decimal m) ∷ xs ≡ (64 ∷ decimal n) ∷ ys = sym cut.0 ∙ other.0 in cc

-- an edit that the words spell is cut at its own words

pub edit_cut : (words : List (List ℕ)) (edit : model.Edit) → (spells : SpellsEdit words edit) → CutsAfter words edit.after (spells.patches ++ (spells.adds ++ spells.drops))
edit_cut words edit spells =
    after_cut words spells.after (spells.patches ++ (spells.adds ++ spells.drops)) edit.after spells.spells_after spells.spelled
    (patches_first spells.patches (spells.adds ++ spells.drops) edit.patches spells.spells_patches spells.some_patch)

-- these words spell the patches, the blocks to add and the blocks to drop of an edit
pub record SpellsParts (patches adds drops : List (List ℕ)) (edit : model.Edit) : Type 0 where
  pub spells_patches : AllZip SpellsPatch patches edit.patches
  pub some_patch : 0 < length edit.patches
  pub spells_adds : AllZip SpellsAdd adds edit.adds
  pub spells_drops : AllZip SpellsDrop drops edit.drops

pub parts_of : (words rest front patches adds drops : List (List ℕ)) (after : Option ℕ) (edit : model.Edit) → CutsAfter words after rest → CutsBefore 45 rest front drops → CutsBefore 43 front patches adds →
    SpellsEdit words edit → SpellsParts patches adds drops edit
parts_of words rest front patches adds drops after edit cut cut_drops cut_adds spells =
    let tail = spells.patches ++ (spells.adds ++ spells.drops) in
    let other = patches_first spells.patches (spells.adds ++ spells.drops) edit.patches spells.spells_patches spells.some_patch in
    let behind : tail ≡ rest = after_once words tail rest edit.after after (edit_cut words edit spells) cut other in
    let whole : (spells.patches ++ spells.adds) ++ spells.drops ≡ front ++ drops = append_assoc spells.patches spells.adds spells.drops ∙ (behind ∙ cut_drops.whole) in
    let patches_45 = all_words SpellsPatch (λ word. begins_with 45 word ≡ false) (patch_begins 45 (inl (omega arith))) spells.patches edit.patches spells.spells_patches in
    let patches_43 = all_words SpellsPatch (λ word. begins_with 43 word ≡ false) (patch_begins 43 (inl (omega arith))) spells.patches edit.patches spells.spells_patches in
    let adds_45 = all_words SpellsAdd (λ word. begins_with 45 word ≡ false) add_begins_not spells.adds edit.adds spells.spells_adds in
    let last = cut_once 45 (spells.patches ++ spells.adds) spells.drops front drops whole
    (All-append (λ word. begins_with 45 word ≡ false) spells.patches spells.adds patches_45 adds_45)
    (none_or_begins SpellsDrop 45 drop_begins spells.drops edit.drops spells.spells_drops) cut_drops.before cut_drops.behind in
    let first = cut_once 43 spells.patches spells.adds patches adds (last.0 ∙ cut_adds.whole) patches_43
    (none_or_begins SpellsAdd 43 add_begins spells.adds edit.adds spells.spells_adds) cut_adds.before cut_adds.behind in
    record {
      spells_patches = subst (λ ws. AllZip SpellsPatch ws edit.patches) first.0 spells.spells_patches;
      some_patch = spells.some_patch;
      spells_adds = subst (λ ws. AllZip SpellsAdd ws edit.adds) first.1 spells.spells_adds;
      spells_drops = subst (λ ws. AllZip SpellsDrop ws edit.drops) last.1 spells.spells_drops;
    }

-- and what is cut spells the edit
pub edit_of : (words rest front patches adds drops : List (List ℕ)) (after : Option ℕ) (edit : model.Edit) → CutsAfter words after rest → CutsBefore 45 rest front drops → CutsBefore 43 front patches adds →
    after ≡ edit.after → SpellsParts patches adds drops edit → SpellsEdit words edit
edit_of words rest front patches adds drops after edit cut cut_drops cut_adds waits parts =
    let before = after_spelled words rest after cut in
    let tail : rest ≡ patches ++ (adds ++ drops) = cut_drops.whole ∙ (ap (λ f. f ++ drops) cut_adds.whole ∙ append_assoc patches adds drops) in
    record {
      after = before.0;
      patches = patches;
      adds = adds;
      drops = drops;
      spelled = before.2 ∙ ap (λ t. before.0 ++ t) tail;
      spells_after = subst (SpellsAfter before.0) waits before.1;
      spells_patches = parts.spells_patches;
      some_patch = parts.some_patch;
      spells_adds = parts.spells_adds;
      spells_drops = parts.spells_drops;
    }

-- as many words as items
pub as_many : {X : Type 0} (R : List ℕ → X → Type 0) (words : List (Bor (List ℕ))) (items : List X) → AllZip R (map (λ word. word.now) words) items → length items ≡ length words
as_many R words items spells = AllZip-long R (map (λ word. word.now) words) items spells ∙ length-map words (λ word. word.now)
