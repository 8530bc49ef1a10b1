-- What a file system reads once a block is begun.
use mathlib.Core.Path.{fun_ext}
use Rattle.std.proofs.Common.{◌≡◌, ◌≢◌, ◌⊎◌, ℕ, ◌<◌, true, List, [], Some, Ok, refl, sym, ◌∙◌, ap, inl, inr, arith, ◌^◌, None, subst, if◌then◌else◌}
use Rattle.std.specs.Prelude.{IsTrue, ◌==◌}
use Rattle.std.proofs.lemmas.Bool.{cases_eq, eq-eqb, ne_eqb}
use Rattle.xn_model.specs.Types.{Types}
use Rattle.xn_model.specs.Lives.{Life, StoreState, life_at}
use Rattle.xn_model.specs.Calls.{init_of, latest, new_life, root_of}
use Rattle.xn_model.specs.Root.{slot, word_at}
use Rattle.xn_model.specs.Rules.{IsConsistent}
use Rattle.xn_model.proofs.ForCallers.{set_other, set_same}
use Rattle.ffs_model.proofs.ForCallers.{Started, started, started_here, started_others}
use Rattle.treefs_format.specs.Templates.{IsTree}
use Rattle.treefs_model.specs.Edited.{type_in}
use Rattle.treefs_model.specs.Reading.{block_at, files_of, pointed}
use Rattle.treefs_model.specs.Trees.{has_pointer}
use Rattle.treefs_lookup.specs.Readable.{readable}
use Rattle.treefs_values.specs.Begun.{with_block}
use Rattle.treefs_values.specs.Kinds.{kinds}
use Rattle.treefs_values.specs.Volumes.{IsVolume, IsWholeBlock}
use Rattle.treefs_values.specs.Ways.{IsWay}
use Rattle.treefs_values.proofs.Begun.{begun_files, begun_here, begun_inodes, begun_other, begun_unled, begun_volume, begun_ways}
use Rattle.treefs_values.proofs.Standing.{KeepsInodes}
use Rattle.treefs_values.proofs.Owners.{owner, root_owner, seen_pointer}
use Rattle.treefs_values.proofs.Readings.{kinds_are, may_read, readable_is}

module _ (T : Types) (old new : StoreState) (h : IsConsistent T old) (fs ty : ℕ) (bytes : List ℕ) (b entry : ℕ) (done : init_of T old fs ty bytes ≡ Ok ((b, entry), new)) where
  is : Started old new fs ty bytes (b, entry)
  is = started T old new fs ty bytes (b, entry) done

  life_here : life_at new.lives b ≡ Some (new_life old.next (Some fs) ty bytes)
  life_here = ap (λ xs. life_at xs b) is.lives ∙ set_same old.lives b (Some (new_life old.next (Some fs) ty bytes)) is.within

  life_other : (c : ℕ) → c ≢ b → life_at new.lives c ≡ life_at old.lives c
  life_other c ne = ap (λ xs. life_at xs c) is.lives ∙ set_other old.lives b c (Some (new_life old.next (Some fs) ty bytes)) ne

  -- its own
  may_here : may_read fs (life_at new.lives b) ≡ true
  may_here = ap (may_read fs) life_here ∙ eq-eqb fs fs refl

  pub begun_kind : kinds old fs b ≡ 0
  begun_kind = kinds_are old fs b ∙ ap (λ o. if may_read fs o then type_in o else 0) is.free

  pub begun_reads : readable new fs ≡ with_block (readable old fs) b bytes
  begun_reads = fun_ext (λ c. by c (cases_eq c b))
    where
      by : (c : ℕ) → (c ≡ b) ⊎ (c ≢ b) → readable new fs c ≡ with_block (readable old fs) b bytes c
      by c (inl same) =
          ap (readable new fs) same
          ∙ (readable_is new fs b ∙ (ap (λ t. if t then latest new.lives b else []) may_here ∙ (started_here T old new fs ty bytes (b, entry) done
          ∙ sym (ap (λ t. if t then bytes else readable old fs c) (eq-eqb c b same)))))
      by c (inr ne) =
          readable_is new fs c
          ∙ (ap (λ o. if may_read fs o then latest new.lives c else []) (life_other c ne)
          ∙ (ap (λ m. if may_read fs (life_at old.lives c) then m else []) (started_others T old new fs ty bytes (b, entry) done c ne)
          ∙ (sym (readable_is old fs c) ∙ sym (ap (λ t. if t then bytes else readable old fs c) (ne_eqb c b ne)))))

  pub begun_kinds : kinds new fs ≡ with_block (kinds old fs) b ty
  begun_kinds = fun_ext (λ c. by c (cases_eq c b))
    where
      by : (c : ℕ) → (c ≡ b) ⊎ (c ≢ b) → kinds new fs c ≡ with_block (kinds old fs) b ty c
      by c (inl same) =
          ap (kinds new fs) same
          ∙ (kinds_are new fs b ∙ (ap (λ t. if t then type_in (life_at new.lives b) else 0) may_here ∙ (ap type_in life_here
          ∙ sym (ap (λ t. if t then ty else kinds old fs c) (eq-eqb c b same)))))
      by c (inr ne) =
          kinds_are new fs c
          ∙ (ap (λ o. if may_read fs o then type_in o else 0) (life_other c ne)
          ∙ (sym (kinds_are old fs c) ∙ sym (ap (λ t. if t then ty else kinds old fs c) (ne_eqb c b ne))))

  module _ (node inode top : ℕ) (few : fs < 32) (tree : IsTree T node inode) (root : root_of old fs ≡ Some top)
      (v : IsVolume node inode (kinds old fs) (readable old fs) top) (whole : IsWholeBlock bytes)
      (bare : (o : ℕ) → IsTrue (has_pointer node inode ty o) → word_at bytes o ≡ 0) where
    -- what has no life is pointed to by nothing
    alive_not : (x : ℕ) (l : Life) → life_at old.lives x ≡ Some l → x ≢ b
    alive_not x l alive same = absurd (cc (sym alive ∙ (ap (life_at old.lives) same ∙ is.free)))

    free : (p o : ℕ) → IsTrue (has_pointer node inode (kinds old fs p) o) → pointed (readable old fs) p o ≢ b
    free p o has = by (cases_eq (pointed (readable old fs) p o) 0)
      where
        by : (pointed (readable old fs) p o ≡ 0) ⊎ (pointed (readable old fs) p o ≢ 0) → pointed (readable old fs) p o ≢ b
        by (inl z) = λ same. no_zero (sym same ∙ z)
          where
            no_zero : b ≢ 0
            no_zero none = alive_not 0 h.lives_sound.root.life h.lives_sound.root.alive (sym none)
        by (inr there) =
            let points = (seen_pointer T old h node inode tree v.types.0 v.some_types.0 v.some_types.1 fs p o has).points there in
            let o' = owner T old h node inode tree v.types.0 v.some_types.0 v.some_types.1 fs p o (pointed (readable old fs) p o) there points in
            alive_not (pointed (readable old fs) p o) o'.0 o'.1

    no_root : top ≢ b
    no_root = let r = root_owner T old h node inode tree v.types.0 v.some_types.0 v.some_types.1 fs few top root in alive_not top r.1.0 r.1.1

    pub still_volume : IsVolume node inode (kinds new fs) (readable new fs) top × (files_of (readable new fs) top ≡ files_of (readable old fs) top)
    still_volume = (
      subst (λ t. IsVolume node inode t (readable new fs) top) (sym begun_kinds)
          (subst (λ m. IsVolume node inode (with_block (kinds old fs) b ty) m top) (sym begun_reads)
          (begun_volume node inode top (kinds old fs) (readable old fs) v b ty bytes begun_kind free no_root whole bare)),
      ap (λ m. files_of m top) begun_reads ∙ begun_files node inode top (kinds old fs) (readable old fs) v b ty bytes begun_kind free no_root whole bare,
    )

    pub still_inodes : KeepsInodes (readable old fs) (readable new fs) top
    still_inodes = subst (λ m. KeepsInodes (readable old fs) m top) (sym begun_reads)
        (begun_inodes node inode top (kinds old fs) (readable old fs) v b ty bytes begun_kind free no_root whole bare)

    pub still_ways : (l : ℕ) (os : List ℕ) → IsWay os l → block_at (readable new fs) top os ≡ block_at (readable old fs) top os
    still_ways l os way = ap (λ m. block_at m top os) begun_reads
        ∙ begun_ways node inode top (kinds old fs) (readable old fs) v b ty bytes begun_kind free no_root whole bare l os way

    -- what nothing points to, so it stays
    pub still_unled : (x : ℕ) → x ≢ 0 → ((p o : ℕ) → IsTrue (has_pointer node inode (kinds old fs p) o) → pointed (readable old fs) p o ≢ x) →
        (p o : ℕ) → IsTrue (has_pointer node inode (kinds new fs p) o) → pointed (readable new fs) p o ≢ x
    still_unled x some unled =
        subst (λ t. (p o : ℕ) → IsTrue (has_pointer node inode (t p) o) → pointed (readable new fs) p o ≢ x) (sym begun_kinds)
        (subst (λ m. (p o : ℕ) → IsTrue (has_pointer node inode (with_block (kinds old fs) b ty p) o) → pointed m p o ≢ x) (sym begun_reads)
        (begun_unled node inode top (kinds old fs) (readable old fs) v b ty bytes begun_kind free no_root whole bare x some unled))

    pub still_other : (x : ℕ) → kinds old fs x ≢ 0 → (x ≢ b) × (kinds new fs x ≡ kinds old fs x) × (readable new fs x ≡ readable old fs x)
    still_other x some =
        let o = begun_other node inode top (kinds old fs) (readable old fs) v b ty bytes begun_kind free no_root whole bare x some in
        (o.0, ap (λ t. t x) begun_kinds ∙ o.1, ap (λ m. m x) begun_reads ∙ o.2)

    -- and the new one
    pub new_here : (kinds new fs b ≡ ty) × (readable new fs b ≡ bytes)
    new_here =
        let h = begun_here node inode top (kinds old fs) (readable old fs) v b ty bytes begun_kind free no_root whole bare in
        (ap (λ t. t b) begun_kinds ∙ h.0, ap (λ m. m b) begun_reads ∙ h.1)

    pub new_some : b ≢ 0
    new_some none = alive_not 0 h.lives_sound.root.life h.lives_sound.root.alive (sym none)

    pub new_no_root : top ≢ b
    new_no_root = no_root

    pub new_unled : (p o : ℕ) → IsTrue (has_pointer node inode (kinds new fs p) o) → pointed (readable new fs) p o ≢ b
    new_unled = still_unled b new_some free

    -- block 0 stays
    pub root_same : root_of new fs ≡ root_of old fs
    root_same = ap (λ m. if (slot m fs).0 == 0 then None else Some (slot m fs).0)
        (started_others T old new fs ty bytes (b, entry) done 0 (λ same. new_some (sym same)))

    pub new_within : b < 2 ^ 32
    new_within = let lt = is.within in let few' = h.size.1 in omega arith
