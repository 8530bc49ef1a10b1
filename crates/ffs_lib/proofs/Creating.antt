-- What is looked up before a name is made.
use Rattle.std.proofs.Common.{◌≡◌, ℕ, Bool, true, false, List, Option, refl, sym, ◌∙◌, ap, subst, Result, Ok, Err, IsErrAnd, IsOk, MatchResult, ◌||◌, is_some, if◌then◌else◌}
use Rattle.ffs_lib.proofs.Common.{BadName, Exists, FfsFault, NoInode, Slot, TooLarge, and_then, create_in, directory_in, err_from_is_err_and, first_named}
use Rattle.ffs_lib.proofs.Common.{has_empty_pointer, has_free_inode, has_inode, has_room, if_new, if_room, is_name, root_in}
use Rattle.ffs_lookup.proofs.ForCallers.{same_ok}

-- a free inode, or a pointer for a new block of them

module _ {A : Type 0} (content : ℕ → List ℕ) (root : ℕ) (free : Option A) (is : is_some free ≡ has_free_inode content root) where
  pub none_left : false ≡ is_some free → has_empty_pointer content root ≡ false → has_inode content root ≡ false
  none_left n e = ap (λ t. t || has_empty_pointer content root) (sym is ∙ sym n) ∙ e

  pub pointer_left : false ≡ is_some free → has_empty_pointer content root ≡ true → has_inode content root ≡ true
  pointer_left n e = ap (λ t. t || has_empty_pointer content root) (sym is ∙ sym n) ∙ e

  pub one_left : true ≡ is_some free → has_inode content root ≡ true
  one_left n = ap (λ t. t || has_empty_pointer content root) (sym is ∙ sym n)

-- in the order of the tests

module _ (content : ℕ → List ℕ) (fs d : ℕ) (name : List ℕ) where
  pub create_nothing : (fault : FfsFault) → Err fault ≡ directory_in content fs d → Err fault ≡ create_in content fs d name
  unfolding create_in
  create_nothing fault e = ap (λ (r : Result (List ℕ) FfsFault). and_then r (if_new content fs name)) e

  module _ (inode : List ℕ) (found : Ok inode ≡ directory_in content fs d) where
    in_directory : if_new content fs name inode ≡ create_in content fs d name
    unfolding create_in
    in_directory = ap (λ (r : Result (List ℕ) FfsFault). and_then r (if_new content fs name)) found

    abbrev if_named : Bool → Result (List ℕ) FfsFault
    if_named t = if t then Err Exists else and_then (root_in content fs) (if_room content inode)

    pub bad_name : false ≡ is_name name → Err BadName ≡ create_in content fs d name
    bad_name bad = ap (λ (t : Bool). if t then if_named (is_some (first_named content inode name)) else Err BadName) bad ∙ in_directory

    module _ (good : true ≡ is_name name) (o : Option Slot) (is : ◌≡◌ {A = Result (Option Slot) FfsFault} (Ok o) (Ok (first_named content inode name))) where
      named : if_named (is_some o) ≡ create_in content fs d name
      named =
          ap (λ (x : Option Slot). if_named (is_some x)) (same_ok o (first_named content inode name) is)
          ∙ (ap (λ (t : Bool). if t then if_named (is_some (first_named content inode name)) else Err BadName) good ∙ in_directory)

      pub taken : true ≡ is_some o → Err Exists ≡ create_in content fs d name
      taken some = ap if_named some ∙ named

      module _ (new : false ≡ is_some o) (root : ℕ) (top : Ok root ≡ root_in content fs) where
        abbrev if_inode : Bool → Result (List ℕ) FfsFault
        if_inode t = if t then (if has_room content inode then Ok inode else Err TooLarge) else Err NoInode

        at_root : if_inode (has_inode content root) ≡ create_in content fs d name
        at_root = ap (λ (r : Result ℕ FfsFault). and_then r (if_room content inode)) top ∙ (ap if_named new ∙ named)

        pub no_inode : (fault : FfsFault) → (fault ≡ NoInode) × (has_inode content root ≡ false) → Err fault ≡ create_in content fs d name
        no_inode fault h = ap (λ (x : FfsFault). Err x) h.0 ∙ (sym (ap if_inode h.1) ∙ at_root)

        module _ (some : has_inode content root ≡ true) where
          with_inode : (if has_room content inode then Ok inode else Err TooLarge) ≡ create_in content fs d name
          with_inode = sym (ap if_inode some) ∙ at_root

          pub no_room : (fault : FfsFault) → (fault ≡ TooLarge) × (has_room content inode ≡ false) → Err fault ≡ create_in content fs d name
          no_room fault h = ap (λ (x : FfsFault). Err x) h.0 ∙ (sym (ap (λ (t : Bool). if t then Ok inode else Err TooLarge) h.1) ∙ with_inode)

          pub may_create : has_room content inode ≡ true → Ok inode ≡ create_in content fs d name
          may_create room = sym (ap (λ (t : Bool). if t then Ok inode else Err TooLarge) room) ∙ with_inode

pub is_found : {A : Type 0} (x : A) (r : Result A FfsFault) → Ok x ≡ r → IsOk r
is_found x r e = rw (← e) refl

-- a fault that is handed on
pub not_made : {A : Type 0} (looked : Result (List ℕ) FfsFault) (result : Result A FfsFault) (fault : FfsFault) → IsErrAnd result (λ other. other ≡ fault) → Err fault ≡ looked → MatchResult result (λ x. IsOk looked) (λ other. Err other ≡ looked)
not_made {A} looked result fault from e =
    let p = err_from_is_err_and result from in
    subst (λ (r : Result A FfsFault). MatchResult r (λ x. IsOk looked) (λ other. Err other ≡ looked)) (sym (p.1 ∙ ap (λ (f : FfsFault). Err f) p.2)) e
