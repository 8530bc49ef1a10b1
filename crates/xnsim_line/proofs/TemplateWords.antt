-- The words behind a count of blocks.
use Rattle.std.proofs.Common.{◌≡◌, ℕ, Bool, true, false, List, [], ◌∷◌, map, refl, sym, ◌∙◌, subst, arith}
use Rattle.std.specs.Prelude.{All, codes}
use Rattle.std.proofs.lemmas.List.{length-map, get_or-map}
use Rattle.xnsim_line.specs.Lines.{CutsFileSystem, IsName, IsTemplateWords}

-- what holds of each element of a mapped list
pub all_unmapped : {X Y : Type 0} (P : Y → Type 0) (f : X → Y) (xs : List X) → All P (map f xs) → All (λ x. P (f x)) xs
all_unmapped P f xs all = λ k d within. subst P (get_or-map f xs k d (f d) within) (all k (f d) (rw length-map within))

option_is_no_name : (words rest : List (List ℕ)) → All IsName words → words ≡ codes "--ffs" ∷ rest → ⊥
option_is_no_name words rest all is =
    let here : All IsName (codes "--ffs" ∷ rest) = subst (All IsName) is all in
    let name : IsName (codes "--ffs") = here 0 [] (omega arith) in
    name refl

-- words are split in one way only
pub no_template_words : (words names : List (List ℕ)) (file_system : Bool) → CutsFileSystem words file_system names → (All IsName names → ⊥) →
    (other : Bool) (others : List (List ℕ)) → ¬ IsTemplateWords words other others
no_template_words words names true cut none true others is =
    let same : names ≡ others = cc (cut.spelled, is.spelled) in
    none (subst (All IsName) (sym same) is.named)
no_template_words words names true cut none false others is =
    option_is_no_name others names is.named (sym is.spelled ∙ cut.spelled)
no_template_words words names false cut none true others is = cut.cut refl others is.spelled
no_template_words words names false cut none false others is =
    let same : names ≡ others = sym cut.spelled ∙ is.spelled in
    none (subst (All IsName) (sym same) is.named)
