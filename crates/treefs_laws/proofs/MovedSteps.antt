-- Steps of the move of a name, each an edit of one block, in a state of the store.
--     IsLinksStep      an inode gets other links
--     IsNumberStep     the number of a record is set
use Rattle.std.proofs.Common.{◌≡◌, ◌≢◌, ℕ, ◌<◌, ◌^◌, List, ◌∷◌, ◌++◌, length, Option, None, Some, Ok, refl, sym, ◌∙◌, ap, inl, inr, arith, subst}
use Rattle.std.specs.Prelude.{All, IsTrue, ⊤}
use Rattle.std.specs.Int.{w32, to_le_bytes}
use Rattle.xn_model.specs.Types.{Types}
use Rattle.xn_model.specs.Lives.{StoreState}
use Rattle.treefs_format.specs.Fields.{fields_of}
use Rattle.treefs_format.specs.Names.{is_name}
use Rattle.treefs_format.specs.Records.{Entry, entry_bytes}
use Rattle.treefs_model.specs.Acts.{Ran, changes_act, number_act, one_patch, patch_act, record_act}
use Rattle.treefs_model.specs.Files.{Files, Inode, changed_at, with_name}
use Rattle.treefs_model.specs.Reading.{files_of, key_in}
use Rattle.treefs_lookup.specs.Readable.{readable}
use Rattle.treefs_edits.specs.Kinds.{links_act}
use Rattle.treefs_edits.specs.Written.{written}
use Rattle.treefs_edits.specs.declared.times.Times.{Times}
use Rattle.treefs_name_plans.specs.Links.{link_act}
use Rattle.treefs_name_plans.specs.Namings.{naming_ends}
use Rattle.treefs_name_plans.specs.declared.naming.Naming.{Naming}
use Rattle.treefs_name_plans.specs.declared.naming.Naming.TheVariants.{Added, Replaced}
use Rattle.treefs_values.specs.Kinds.{kinds}
use Rattle.treefs_values.specs.Values.{AreChanges, inode_with_links, led_to, links_parts}
use Rattle.treefs_values.specs.Volumes.{IsVolume}
use Rattle.treefs_values.specs.Ways.{block_numbered}
use Rattle.treefs_values.proofs.ForCallers.{IsAt, IsDirectoryAt, IsEdit, IsKeptInode, IsNew, IsPlace, New, Stands, edit_is, fields_files, fields_here, fields_inode, fields_keep, fields_key, fields_numbered, links_make, placed_so, same_size, set_beside, set_directory, set_files, set_numbered, set_others, set_place, set_volume, written_twice}

module _ (T : Types) (fs node inode top : ℕ) where
  abbrev pub IsHere : StoreState → Type 0
  IsHere s = IsAt T fs node inode top s

  abbrev pub files_at : StoreState → Files
  files_at s = files_of (readable s fs) top

  abbrev pub at : StoreState → ℕ → ℕ
  at s m = block_numbered (readable s fs) top m

  pub record IsLinksStep (old new : StoreState) (n : ℕ) (change : Inode → Inode) : Type 0 where
    pub here : IsHere new
    pub files : files_at new ≡ changed_at (files_at old) n change
    pub numbered : (m : ℕ) → at new m ≡ at old m
    pub key : key_in (readable new fs) top ≡ key_in (readable old fs) top
    pub kept : (m : ℕ) → m ≢ n → m ≢ 0 → at old m ≢ 0 → IsKeptInode (readable old fs) (readable new fs) top m
    pub keeps : (x : New) → IsNew node inode (kinds old fs) (readable old fs) top x → IsNew node inode (kinds new fs) (readable new fs) top x

  pub links_step : (old new : StoreState) → IsHere old → (n b : ℕ) → n ≢ 0 → at old n ≡ b → b ≢ 0 → (links : ℕ) (times : Option Times) (parent : Option ℕ) →
      All AreChanges (links_parts links times parent) → (behind : Option ℕ) → IsEdit T fs (links_act b links times parent behind) old new →
      IsLinksStep old new n (inode_with_links links times parent)
  links_step old new here n b number is some links times parent fine behind edit =
      let there : at old n ≢ 0 = λ z. some (sym is ∙ z) in
      let changes = links_parts links times parent in
      let edit' = subst (λ x. IsEdit T fs (changes_act x (links_parts links times parent) behind) old new) (sym is) edit in
      let was = fields_of (readable old fs (block_numbered (readable old fs) top n)) in
      let sizes = same_size was links times parent in
      record {
        here = fields_here T fs node inode top old new here n number there changes fine behind edit' sizes.0 sizes.1 (inode_with_links links times parent) (links_make was links times parent);
        files = fields_files T fs node inode top old new here n number there changes fine behind edit' sizes.0 sizes.1 (inode_with_links links times parent)
            (links_make was links times parent);
        numbered = fields_numbered T fs node inode top old new here n number there changes fine behind edit';
        key = fields_key T fs node inode top old new here n number there changes fine behind edit';
        kept = fields_inode T fs node inode top old new here n number there changes fine behind edit';
        keeps = fields_keep T fs node inode top old new here n number there changes fine behind edit';
      }

  pub record IsNumberStep (old new : StoreState) (d : ℕ) (name : List ℕ) (b now : ℕ) : Type 0 where
    pub here : IsHere new
    pub files : files_at new ≡ with_name (files_at old) d name (led_to now)
    pub numbered : (m : ℕ) → at new m ≡ at old m
    pub others : (d' : ℕ) (name' : List ℕ) (b' o' : ℕ) → Stands (readable old fs) top d' name' b' o' → b' ≢ b → Stands (readable new fs) top d' name' b' o'

  pub number_step : (old new : StoreState) → IsHere old → (d : ℕ) (name : List ℕ) (b o : ℕ) → Stands (readable old fs) top d name b o → (now : ℕ) → now < 2 ^ 32 → (behind : Option ℕ) →
      IsEdit T fs (number_act b o now behind) old new → IsNumberStep old new d name b now
  number_step old new here d name b o s now short behind edit = record {
    here = record {
      store = edit.store;
      root = edit.root ∙ here.root;
      volume = subst (λ t. IsVolume node inode t (readable new fs) top) (sym edit.types) (subst (λ m. IsVolume node inode (kinds old fs) m top) (sym edit.reads)
          (set_volume node inode top (kinds old fs) (readable old fs) here.volume d name b o s now short behind));
    };
    files = ap (λ m. files_of m top) edit.reads ∙ set_files node inode top (kinds old fs) (readable old fs) here.volume d name b o s now short behind;
    numbered = λ m. ap (λ x. block_numbered x top m) edit.reads ∙ set_numbered node inode top (kinds old fs) (readable old fs) here.volume d name b o s now short behind m;
    others = λ d' name' b' o' s' ne. subst (λ x. Stands x top d' name' b' o') (sym edit.reads)
        (set_others node inode top (kinds old fs) (readable old fs) here.volume d name b o s now short behind d' name' b' o' s' ne);
  }

  -- What was replaced gets a link fewer

  abbrev pub after_ends : Naming → Files → Files
  after_ends (Added addition) files = files
  after_ends (Replaced end) files = changed_at files end.number (inode_with_links end.fewer.links end.fewer.times end.fewer.parent)

  abbrev pub MayEnd : Naming → StoreState → Type 0
  MayEnd (Added addition) s = ⊤
  MayEnd (Replaced end) s = (end.number ≢ 0) × (at s end.number ≡ end.fewer.block) × (end.fewer.block ≢ 0) × All AreChanges (links_parts end.fewer.links end.fewer.times end.fewer.parent)

  pub still_ends : (naming : Naming) (s s' : StoreState) → ((m : ℕ) → at s' m ≡ at s m) → MayEnd naming s → MayEnd naming s'
  still_ends (Added addition) s s' numbered fine = tt
  still_ends (Replaced end) s s' numbered fine = (fine.0, numbered end.number ∙ fine.1, fine.2, fine.3)

  pub ends_step : (naming : Naming) (s s' : StoreState) → IsHere s → MayEnd naming s → Ran T fs (naming_ends naming) s s' (Ok tt) →
      IsHere s' × (files_at s' ≡ after_ends naming (files_at s))
  ends_step (Added addition) s s' here fine ran = subst (λ x. IsHere x × (files_at x ≡ files_at s)) (sym ran.1) (here, refl)
  ends_step (Replaced end) s s' here fine ran = elim ran [
    | inl none ↦ absurd none
    | inr r ↦
        let edit = edit_is T fs (link_act end.fewer end.block) s r.1 r.0 here.store refl r.2 in
        let step = links_step s r.1 here end.number end.fewer.block fine.0 fine.1 fine.2 end.fewer.links end.fewer.times end.fewer.parent fine.3 (Some end.block) edit in
        subst (λ x. IsHere x × (files_at x ≡ changed_at (files_at s) end.number (inode_with_links end.fewer.links end.fewer.times end.fewer.parent))) (sym r.3.1) (step.here, step.files)
  ]

  -- The old record's number becomes 0, and then the link goes that the inode had more

  pub apart_ends : (naming : Naming) (s s' : StoreState) → IsHere s → MayEnd naming s → (d : ℕ) (name : List ℕ) (b o : ℕ) → Stands (readable s fs) top d name b o →
      (n b_n : ℕ) → n ≢ 0 → at s n ≡ b_n → b_n ≢ 0 → (links : ℕ) (times : Option Times) → All AreChanges (links_parts links times None) → (behind : Option ℕ) →
      Ran T fs (number_act b o 0 behind ∷ links_act b_n links times None (Some b) ∷ naming_ends naming) s s' (Ok tt) →
      IsHere s' × (files_at s' ≡ after_ends naming (changed_at (with_name (files_at s) d name None) n (inode_with_links links times None)))
  apart_ends naming s s' here may d name b o stands n b_n number is some links times fine behind ran = elim ran [
    | inl none ↦ absurd none
    | inr r ↦ elim r.3 [
      | inl none ↦ absurd none
      | inr r' ↦
          let first = edit_is T fs (number_act b o 0 behind) s r.1 r.0 here.store refl r.2 in
          let one = number_step s r.1 here d name b o stands 0 (omega arith) behind first in
          let second = edit_is T fs (links_act b_n links times None (Some b)) r.1 r'.1 r'.0 one.here.store refl r'.2 in
          let two = links_step r.1 r'.1 one.here n b_n number (one.numbered n ∙ is) some links times None fine (Some b) second in
          let may' = still_ends naming r.1 r'.1 two.numbered (still_ends naming s r.1 one.numbered may) in
          let last = ends_step naming r'.1 s' two.here may' r'.3 in
          (last.0, last.1 ∙ ap (after_ends naming) (two.files ∙ ap (λ f. changed_at f n (inode_with_links links times None)) one.files))
    ]
  ]

  -- Both records stand in one block

  pub both_made : (old new : StoreState) → IsHere old → (d c : ℕ) (key : List ℕ) → IsDirectoryAt (readable old fs) top d c key → (name : List ℕ) (b o : ℕ) →
      Stands (readable old fs) top d name b o → (name' : List ℕ) (n : ℕ) → n < 2 ^ 32 → IsTrue (is_name name') → All (λ x. x < 256) name' → length name' < 256 →
      (b' o' : ℕ) → IsPlace (readable old fs) key c name' b' o' → b' ≡ b → (behind : Option ℕ) →
      IsEdit T fs (patch_act b (one_patch o (to_le_bytes w32 0) ++ one_patch o' (entry_bytes (record { number = n; name = name' }))) behind) old new →
      IsHere new × (files_at new ≡ with_name (with_name (files_at old) d name None) d name' (led_to n))
  both_made old new here d c key dir name b o s name' n short named range long b' o' place same behind edit =
      let content = readable old fs in
      let e : Entry = record { number = n; name = name' } in
      let v = here.volume in
      let some : 0 < 2 ^ 32 = omega arith in
      let own : ℕ = block_numbered content top d in
      let ended : ℕ → List ℕ = written (number_act b o 0 None) content in
      let v' = set_volume node inode top (kinds old fs) content v d name b o s 0 some None in
      let dir' = set_directory node inode top (kinds old fs) content v d name b o s 0 some None key (subst (λ x. IsDirectoryAt content top d x key) (sym dir.block) dir) in
      let place' = set_place node inode top (kinds old fs) content v d name b o s 0 some None key name' b' o' (subst (λ x. IsPlace content key x name' b' o') (sym dir.block) place) in
      let placed = placed_so node inode top (kinds old fs) ended v' d own key dir' name' n short named range long None b' o' place' in
      let reads : readable new fs ≡ written (record_act b' o' e None) ended =
      edit.reads ∙ (written_twice content b (one_patch o (to_le_bytes w32 0)) (one_patch o' (entry_bytes e)) behind None None
      ∙ ap (λ x. written (record_act x o' e None) ended) (sym same)) in (
        record {
          store = edit.store;
          root = edit.root ∙ here.root;
          volume = subst (λ t. IsVolume node inode t (readable new fs) top) (sym edit.types) (subst (λ m. IsVolume node inode (kinds old fs) m top) (sym reads) placed.0);
        },
        ap (λ m. files_of m top) reads
            ∙ (placed.1 ∙ ap (λ f. with_name f d name' (led_to n)) (set_files node inode top (kinds old fs) content v d name b o s 0 some None)),
      )

  pub both_set : (old new : StoreState) → IsHere old → (d : ℕ) (name : List ℕ) (b o : ℕ) → Stands (readable old fs) top d name b o → (name' : List ℕ) (n : ℕ) → n < 2 ^ 32 →
      (b' o' : ℕ) → Stands (readable old fs) top d name' b' o' → b' ≡ b → (behind : Option ℕ) →
      IsEdit T fs (patch_act b (one_patch o (to_le_bytes w32 0) ++ one_patch o' (to_le_bytes w32 n)) behind) old new →
      IsHere new × (files_at new ≡ with_name (with_name (files_at old) d name None) d name' (led_to n)) × ((m : ℕ) → at new m ≡ at old m)
  both_set old new here d name b o s name' n short b' o' s' same behind edit =
      let content = readable old fs in
      let v = here.volume in
      let some : 0 < 2 ^ 32 = omega arith in
      let ended : ℕ → List ℕ = written (number_act b o 0 None) content in
      let v' = set_volume node inode top (kinds old fs) content v d name b o s 0 some None in
      let s'' = set_beside node inode top (kinds old fs) content v d name b o s 0 some None name' b' o' s' in
      let reads : readable new fs ≡ written (number_act b' o' n None) ended =
      edit.reads ∙ (written_twice content b (one_patch o (to_le_bytes w32 0)) (one_patch o' (to_le_bytes w32 n)) behind None None
      ∙ ap (λ x. written (number_act x o' n None) ended) (sym same)) in (
        record {
          store = edit.store;
          root = edit.root ∙ here.root;
          volume = subst (λ t. IsVolume node inode t (readable new fs) top) (sym edit.types) (subst (λ m. IsVolume node inode (kinds old fs) m top) (sym reads)
              (set_volume node inode top (kinds old fs) ended v' d name' b' o' s'' n short None));
        },
        ap (λ m. files_of m top) reads
            ∙ (set_files node inode top (kinds old fs) ended v' d name' b' o' s'' n short None
            ∙ ap (λ f. with_name f d name' (led_to n)) (set_files node inode top (kinds old fs) content v d name b o s 0 some None)),
        (λ m. ap (λ x. block_numbered x top m) reads ∙ (set_numbered node inode top (kinds old fs) ended v' d name' b' o' s'' n short None m
            ∙ set_numbered node inode top (kinds old fs) content v d name b o s 0 some None m)),
      )
