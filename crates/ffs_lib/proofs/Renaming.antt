-- What is looked up before a name is moved, in the order of the tests.
use Rattle.std.proofs.Common.{◌≡◌, ◌≢◌, ℕ, Bool, true, false, List, Option, Some, None, refl, sym, ◌∙◌, ap, eq-eqb, IsErrAnd, IsTrue, Result, Ok, Err, ◌==◌, ◌&&◌, not, is_some, if◌then◌else◌, ok_or, eqb-true, ne_eqb}
use Rattle.ffs_lib.proofs.Common.{BadName, Exists, FfsFault, IsDir, NoEntry, NotDir, Slot, TooLarge, and_parts, and_then, directory_in, eqb-false}
use Rattle.ffs_lib.proofs.Common.{err_from_is_err_and, first_named, has_room, if_linkable, if_movable, if_unnamed, inode_in, inode_links, inode_mode, is_name}
use Rattle.ffs_lib.proofs.Common.{rename_in}
use Rattle.ffs_lookup.proofs.ForCallers.{directory_is, in_directory, same_ok}
use Rattle.ffs_lib.proofs.Owners.{not_first, only_first, passed, then_first}

-- an option that was there, or was not
pub is_some_ok : {A : Type 0} (o : Option A) (x : A) → ◌≡◌ {A = Result A FfsFault} (Ok x) (ok_or o NoEntry) → Some x ≡ o
is_some_ok None x e = absurd (cc e)
is_some_ok (Some y) x e = cc

-- a fault that is handed on
pub told : {A : Type 0} (r result : Result A FfsFault) (fault : FfsFault) → IsErrAnd result (λ other. other ≡ fault) → Err fault ≡ r → result ≡ r
told {A} r result fault from e = let p = err_from_is_err_and result from in p.1 ∙ (ap (λ (f : FfsFault). Err f) p.2 ∙ e)

module _ (content : ℕ → List ℕ) (fs d : ℕ) (name : List ℕ) (other : ℕ) (new_name : List ℕ) where
  abbrev all : Result Slot FfsFault
  all = rename_in content fs d name other new_name

  pub no_first : (fault : FfsFault) → Err fault ≡ inode_in content fs d → Err fault ≡ all
  unfolding rename_in
  no_first fault e = ap (λ (r : Result (List ℕ) FfsFault). and_then r (λ from. and_then (inode_in content fs other) (λ to. if_movable content fs (d == other) name new_name from to))) e

  module _ (from : List ℕ) (e : Ok from ≡ inode_in content fs d) where
    at_first : and_then (inode_in content fs other) (λ to. if_movable content fs (d == other) name new_name from to) ≡ all
    unfolding rename_in
    at_first = ap (λ (r : Result (List ℕ) FfsFault). and_then r (λ x. and_then (inode_in content fs other) (λ to. if_movable content fs (d == other) name new_name x to))) e

    pub no_second : (fault : FfsFault) → Err fault ≡ inode_in content fs other → Err fault ≡ all
    no_second fault f = ap (λ (r : Result (List ℕ) FfsFault). and_then r (λ to. if_movable content fs (d == other) name new_name from to)) f ∙ at_first

    module _ (to : List ℕ) (f : Ok to ≡ inode_in content fs other) where
      at_both : if_movable content fs (d == other) name new_name from to ≡ all
      at_both = ap (λ (r : Result (List ℕ) FfsFault). and_then r (λ x. if_movable content fs (d == other) name new_name from x)) f ∙ at_first

      abbrev named : Option Slot → Result Slot FfsFault
      named o = and_then (ok_or o NoEntry) (if_unnamed content fs (d == other) to new_name)

      abbrev if_names : Bool → Result Slot FfsFault
      if_names t = if t then named (first_named content from name) else Err BadName

      pub no_directory : false ≡ (inode_mode from == 2) && (inode_mode to == 2) → Err NotDir ≡ all
      no_directory t = ap (λ (x : Bool). if x then if_names (is_name name && is_name new_name) else Err NotDir) t ∙ at_both

      module _ (dirs : true ≡ (inode_mode from == 2) && (inode_mode to == 2)) where
        at_dirs : if_names (is_name name && is_name new_name) ≡ all
        at_dirs = ap (λ (x : Bool). if x then if_names (is_name name && is_name new_name) else Err NotDir) dirs ∙ at_both

        pub bad_names : false ≡ is_name name && is_name new_name → Err BadName ≡ all
        bad_names t = ap if_names t ∙ at_dirs

        -- where an entry was looked up by the first name
        module _ (good : true ≡ is_name name && is_name new_name) (o : Option Slot) (is : ◌≡◌ {A = Result (Option Slot) FfsFault} (Ok o) (Ok (first_named content from name))) where
          at_names : named o ≡ all
          at_names = ap named (same_ok o (first_named content from name) is) ∙ (ap if_names good ∙ at_dirs)

          pub no_name : (fault : FfsFault) → Err fault ≡ ok_or o NoEntry → Err fault ≡ all
          no_name fault n = ap (λ (r : Result Slot FfsFault). and_then r (if_unnamed content fs (d == other) to new_name)) n ∙ at_names

          -- and one by the other
          module _ (entry : Slot) (found : Ok entry ≡ ok_or o NoEntry) (o2 : Option Slot) (second : ◌≡◌ {A = Result (Option Slot) FfsFault} (Ok o2) (Ok (first_named content to new_name))) where
            abbrev if_new : Bool → Result Slot FfsFault
            if_new t = if t then Err Exists else and_then (inode_in content fs entry.inode) (if_linkable content (d == other) to entry)

            at_entry : if_new (is_some o2) ≡ all
            at_entry =
                ap (λ (x : Option Slot). if_new (is_some x)) (same_ok o2 (first_named content to new_name) second)
                ∙ (ap (λ (r : Result Slot FfsFault). and_then r (if_unnamed content fs (d == other) to new_name)) found ∙ at_names)

            pub new_taken : true ≡ is_some o2 → Err Exists ≡ all
            new_taken t = ap if_new t ∙ at_entry

            module _ (free : false ≡ is_some o2) where
              at_free : and_then (inode_in content fs entry.inode) (if_linkable content (d == other) to entry) ≡ all
              at_free = ap if_new free ∙ at_entry

              pub no_inode_named : (fault : FfsFault) → Err fault ≡ inode_in content fs entry.inode → Err fault ≡ all
              no_inode_named fault i = ap (λ (r : Result (List ℕ) FfsFault). and_then r (if_linkable content (d == other) to entry)) i ∙ at_free

              module _ (inode : List ℕ) (i : Ok inode ≡ inode_in content fs entry.inode) where
                abbrev if_room : Bool → Result Slot FfsFault
                if_room t = if t then Ok entry else Err TooLarge

                abbrev if_links : Bool → Result Slot FfsFault
                if_links t = if t then Err TooLarge else if_room (has_room content to)

                at_inode : (if (inode_mode inode == 2) && not (d == other) then Err IsDir else if_links (inode_links inode == 65535)) ≡ all
                at_inode = ap (λ (r : Result (List ℕ) FfsFault). and_then r (if_linkable content (d == other) to entry)) i ∙ at_free

                pub other_directory : true ≡ (inode_mode inode == 2) && not (d == other) → Err IsDir ≡ all
                other_directory t = ap (λ (x : Bool). if x then Err IsDir else if_links (inode_links inode == 65535)) t ∙ at_inode

                module _ (may : false ≡ (inode_mode inode == 2) && not (d == other)) (links : ℕ) (has : links ≡ inode_links inode) where
                  at_may : if_links (links == 65535) ≡ all
                  at_may = ap (λ (l : ℕ). if_links (l == 65535)) has ∙ (ap (λ (x : Bool). if x then Err IsDir else if_links (inode_links inode == 65535)) may ∙ at_inode)

                  pub most_links : links ≡ 65535 → Err TooLarge ≡ all
                  most_links l = ap if_links (sym (eq-eqb links 65535 l)) ∙ at_may

                  module _ (fewer : links ≢ 65535) where
                    at_links : if_room (has_room content to) ≡ all
                    at_links = ap if_links (sym (ne_eqb links 65535 fewer)) ∙ at_may

                    pub no_room_there : (fault : FfsFault) → (fault ≡ TooLarge) × (has_room content to ≡ false) → Err fault ≡ all
                    no_room_there fault t = ap (λ (x : FfsFault). Err x) t.0 ∙ (ap if_room (sym t.1) ∙ at_links)

                    pub may_move : has_room content to ≡ true → Ok entry ≡ all
                    may_move t = ap if_room (sym t) ∙ at_links

-- What was found where all of it passed
pub record CanMove (content : ℕ → List ℕ) (fs d : ℕ) (name : List ℕ) (other : ℕ) (new_name : List ℕ) (entry : Slot) : Type 0 where
  pub from : List ℕ
  pub is_from : Ok from ≡ directory_in content fs d
  pub to : List ℕ
  pub is_to : Ok to ≡ directory_in content fs other
  pub first : Some entry ≡ first_named content from name
  pub free : None ≡ first_named content to new_name
  pub good : IsTrue (is_name name)
  pub own : List ℕ
  pub is_own : Ok own ≡ inode_in content fs entry.inode
  pub few : inode_links own ≢ 65535
  pub room : has_room content to ≡ true

pub none_from : {A : Type 0} (o : Option A) → is_some o ≡ false → None ≡ o
none_from None e = refl
none_from (Some x) e = absurd (cc e)

linkable_is : (content : ℕ → List ℕ) (same : Bool) (to : List ℕ) (entry found : Slot) (inode : List ℕ) → Ok found ≡ if_linkable content same to entry inode → (entry ≡ found) × (inode_links inode ≢ 65535) × (has_room content to ≡ true)
linkable_is content same to entry found inode e =
    let a = not_first ((inode_mode inode == 2) && not same) IsDir (if inode_links inode == 65535 then Err TooLarge else if has_room content to then Ok entry else Err TooLarge) found e in
    let b = not_first (inode_links inode == 65535) TooLarge (if has_room content to then Ok entry else Err TooLarge) found a.1 in
    let c = only_first (has_room content to) entry found TooLarge b.1 in
    (c.1, eqb-false (inode_links inode) 65535 b.0, c.0)

pub can_move : (content : ℕ → List ℕ) (fs d : ℕ) (name : List ℕ) (other : ℕ) (new_name : List ℕ) (entry : Slot) → Ok entry ≡ rename_in content fs d name other new_name → CanMove content fs d name other new_name entry
unfolding rename_in
can_move content fs d name other new_name entry e =
    let same = d == other in
    let a = passed (inode_in content fs d) (λ from. and_then (inode_in content fs other) (λ to. if_movable content fs same name new_name from to)) entry e in
    let b = passed (inode_in content fs other) (λ to. if_movable content fs same name new_name a.0 to) entry a.2 in
    let named = and_then (ok_or (first_named content a.0 name) NoEntry) (if_unnamed content fs same b.0 new_name) in
    let c = then_first ((inode_mode a.0 == 2) && (inode_mode b.0 == 2)) (if is_name name && is_name new_name then named else Err BadName) NotDir entry b.2 in
    let n = then_first (is_name name && is_name new_name) named BadName entry c.1 in
    let o = passed (ok_or (first_named content a.0 name) NoEntry) (if_unnamed content fs same b.0 new_name) entry n.1 in
    let f = not_first (is_some (first_named content b.0 new_name)) Exists (and_then (inode_in content fs o.0.inode) (if_linkable content same b.0 o.0)) entry o.2 in
    let i = passed (inode_in content fs o.0.inode) (if_linkable content same b.0 o.0) entry f.1 in
    let linkable = linkable_is content same b.0 o.0 entry i.0 i.2 in
    let one : o.0 ≡ entry = linkable.0 in
    let modes = and_parts (inode_mode a.0 == 2) (inode_mode b.0 == 2) c.0 in
    record {
      from = a.0;
      is_from = directory_is a.0 (eqb-true (inode_mode a.0) 2 modes.0) ∙ in_directory content fs d (Ok a.0) a.1;
      to = b.0;
      is_to = directory_is b.0 (eqb-true (inode_mode b.0) 2 modes.1) ∙ in_directory content fs other (Ok b.0) b.1;
      first = ap (λ s. Some s) (sym one) ∙ is_some_ok (first_named content a.0 name) o.0 o.1;
      free = none_from (first_named content b.0 new_name) f.0;
      good = (and_parts (is_name name) (is_name new_name) n.0).0;
      own = i.0;
      is_own = i.1 ∙ ap (λ (s : Slot). inode_in content fs s.inode) one;
      few = linkable.1;
      room = linkable.2;
    }
