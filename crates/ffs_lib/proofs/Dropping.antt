-- The blocks that are dropped, listed word by word.
use Rattle.std.proofs.Common.{◌≡◌, ◌≢◌, ℕ, zero, suc, ◌+◌, ◌*◌, length, List, [], ◌∷◌, ◌++◌, Option, Some, None, refl, ◌∙◌, ap, arith, filter_map, option_to_list, append-nil, length-append}
use Rattle.ffs_lib.proofs.Common.{Types, blocks_of, cons_option, drop_all, map-append, put, range_with_len, unless_empty}
use Rattle.ffs_model.specs.Library.{IsLibrary, pointed, pointer_word, zero_block}
use Rattle.ffs_model.proofs.ForCallers.{is_not_empty, pointed_none, word_within, zero_word}

cons_append : (o : Option (ℕ × ℕ)) (xs ys : List (ℕ × ℕ)) → cons_option o (xs ++ ys) ≡ cons_option o xs ++ ys
cons_append None xs ys = refl
cons_append (Some p) xs ys = refl

module _ (word : ℕ → ℕ) (ty : ℕ) where
  abbrev pair : ℕ → Option (ℕ × ℕ)
  pair i = unless_empty (word i, ty)

  one_more : (n a k : ℕ) → a + n ≡ k → filter_map pair (range_with_len a (suc n)) ≡ filter_map pair (range_with_len a n) ++ option_to_list (pair k)
  one_more zero a k e = only (pair a) ∙ ap (λ i. option_to_list (pair i)) (let z : a ≡ k = omega (arith, e) in z)
    where
      only : (o : Option (ℕ × ℕ)) → cons_option o [] ≡ option_to_list o
      only None = refl
      only (Some p) = refl
  one_more (suc n) a k e = ap (cons_option (pair a)) (one_more n (a + 1) k (omega (arith, e))) ∙ cons_append (pair a) (filter_map pair (range_with_len (a + 1) n)) (option_to_list (pair k))

  pointed_more : (k : ℕ) → pointed word (suc k) ty ≡ pointed word k ty ++ option_to_list (pair k)
  pointed_more k = one_more k 0 k (omega arith)

  blocks_more : (k next : ℕ) → next ≡ k + 1 → blocks_of (pointed word next ty) ≡ blocks_of (pointed word k ty) ++ blocks_of (option_to_list (pair k))
  blocks_more k next e = ap (λ n. blocks_of (pointed word n ty)) (let z : next ≡ suc k = omega (arith, e) in z) ∙ (ap blocks_of (pointed_more k) ∙ map-append (λ (p : ℕ × ℕ). p.0) (pointed word k ty) (option_to_list (pair k)))

  -- a word that is 0, and one that is not
  pub words_past : (k next : ℕ) → next ≡ k + 1 → word k ≡ 0 → blocks_of (pointed word next ty) ≡ blocks_of (pointed word k ty)
  words_past k next e none = blocks_more k next e ∙ (ap (λ w. blocks_of (pointed word k ty) ++ blocks_of (option_to_list (unless_empty (w, ty)))) none ∙ append_none (blocks_of (pointed word k ty)))
    where
      append_none : (xs : List ℕ) → xs ++ [] ≡ xs
      append_none [] = refl
      append_none (x ∷ xs) = ap (λ r. x ∷ r) (append_none xs)

  pub words_more : (k next : ℕ) → next ≡ k + 1 → word k ≢ 0 → blocks_of (pointed word next ty) ≡ blocks_of (pointed word k ty) ++ word k ∷ []
  words_more k next e some = blocks_more k next e ∙ ap (λ o. blocks_of (pointed word k ty) ++ blocks_of (option_to_list o)) (is_not_empty (word k, ty) some)

  pub counted_more : (k next : ℕ) → next ≡ k + 1 → word k ≢ 0 → length (blocks_of (pointed word next ty)) ≡ length (blocks_of (pointed word k ty)) + 1
  counted_more k next e some = ap (λ (bs : List ℕ). length bs) (words_more k next e some) ∙ length-append (blocks_of (pointed word k ty)) (word k ∷ [])

pub no_pairs : (ps : List (ℕ × ℕ)) → length (blocks_of ps) ≡ 0 → ps ≡ []
no_pairs [] e = refl
no_pairs (p ∷ ps) e = absurd (omega (arith, e))

-- bytes that are written over all of it
pub put_whole : (m bs : List ℕ) → length m ≡ length bs → put m 0 bs ≡ bs
put_whole [] bs e = ap (λ d. bs ++ d) (drop_all {X = ℕ} (0 + length bs) [] (omega (arith, e))) ∙ append-nil bs
put_whole (x ∷ xs) bs e = ap (λ d. bs ++ d) (drop_all (0 + length bs) (x ∷ xs) (omega (arith, e))) ∙ append-nil bs

-- a block of pointers that was cleared owns nothing
pub cleared_owns : (T : Types) → IsLibrary T → (m : List ℕ) → length m ≡ 512 → T.owned 5 (put m 0 zero_block) ≡ []
cleared_owns T lib m long =
    lib.indirect (put m 0 zero_block)
    ∙ pointed_none (pointer_word (put m 0 zero_block)) 128 2 (λ i low. word_within m 0 zero_block (omega (arith, long)) (4 * i) (4 * i) (omega arith) (omega (arith, low)) ∙ zero_word (4 * i))
