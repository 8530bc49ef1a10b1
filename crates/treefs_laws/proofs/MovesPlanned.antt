-- What is looked up of a name that moves, in the words of the files.
--     IsMoved     what was found of the old name and of the directory of the new one
use Rattle.std.proofs.Common.{◌≡◌, ℕ, ℤ, Bool, true, false, ◌&&◌, List, Option, None, Some, Result, Ok, Err, refl, sym, ◌∙◌, ap, inl, inr, if◌then◌else◌}
use Rattle.std.specs.Prelude.{option_map, ◌==◌}
use Rattle.std.specs.Option.{ok_or}
use Rattle.std.proofs.lemmas.Bool.{and_parts}
use Rattle.xn_model.specs.Lives.{StoreState}
use Rattle.treefs_format.specs.Names.{is_name}
use Rattle.treefs_format.specs.declared.kind.Kind.{Kind}
use Rattle.treefs_format.specs.declared.kind.Kind.TheVariants as kind
use Rattle.treefs_model.specs.Changes.{may_go, move_name, renamed}
use Rattle.treefs_model.specs.Files.{Files, Inode, Names, and_then, directory_at, found, is_directory, number_in, when}
use Rattle.treefs_model.specs.Reading.{content_at, key_in, number_of}
use Rattle.treefs_model.specs.declared.fault.Fault.{Fault}
use Rattle.treefs_model.specs.declared.fault.Fault.TheVariants.{BadName, Cycle, NoEntry}
use Rattle.treefs_lookup.specs.Inodes.{directory_found}
use Rattle.treefs_lookup.specs.Names.{named_in, slot_named}
use Rattle.treefs_lookup.specs.Readable.{readable}
use Rattle.treefs_lookup.specs.declared.inodes.Found.{Found}
use Rattle.treefs_lookup.specs.declared.names.Slot.{Slot}
use Rattle.treefs_name_plans.specs.Ends.{ended_in}
use Rattle.treefs_name_plans.specs.Moves.{is_below, is_cycle, is_kind_directory, most_above, moved_in, moved_old}
use Rattle.treefs_name_plans.specs.NewNames.{directory_for}
use Rattle.treefs_name_plans.specs.declared.ended.Ended.{Ended}
use Rattle.treefs_name_plans.specs.declared.moved.Moved.{Moved}
use Rattle.treefs.specs.declared.volume.Volume.{Volume}
use Rattle.treefs_values.proofs.ForCallers.{numbers_named}
use Rattle.treefs_laws.specs.Kept.{files_in}
use Rattle.treefs_laws.specs.Refusals.{IsNotMoved}
use Rattle.treefs_laws.proofs.Answering.{directory_so, ended_so, none_ended, number_so}
use Rattle.treefs_laws.proofs.Planned.{ended_is, same_done, same_fault, then_fails, then_ok}

pub kind_is : (content : ℕ → List ℕ) (key : List ℕ) (block parent : ℕ) (k : Kind) → is_directory (content_at content key block parent k) ≡ is_kind_directory k
kind_is content key block parent kind.Directory = refl
kind_is content key block parent kind.File = refl
kind_is content key block parent kind.SymbolicLink = refl

module _ (state : StoreState) (volume : Volume) (d : ℕ) (name : List ℕ) (to : ℕ) (new : List ℕ) where
  abbrev content : ℕ → List ℕ
  content = readable state volume.tree.fs.number

  abbrev top : ℕ
  top = volume.tree.top

  abbrev key : List ℕ
  key = key_in content top

  abbrev seen : Files
  seen = files_in state volume

  abbrev clock : ℤ
  clock = volume.memory.clock

  -- the value's steps

  abbrev pub leads : Option ℕ → ℕ → Bool
  leads None n = false
  leads (Some m) n = m == n

  abbrev pub moved_done : ℕ → Option ℕ → Result Files Fault
  moved_done n m = Ok (move_name seen clock d name to new n m)

  abbrev pub if_inode : Bool → Bool → Names → ℕ → Inode → Result Files Fault
  if_inode below empty others n inode =
      if below then Err Cycle else if leads (others new) n then Ok seen else and_then (may_go seen inode (others new) empty) (moved_done n)

  abbrev if_number : Bool → Bool → Names → Result ℕ Fault → Result Files Fault
  if_number below empty others r = and_then r (λ n. and_then (found seen n) (if_inode below empty others n))

  abbrev if_others : Bool → Bool → Names → Names → Result Files Fault
  if_others below empty names others =
      and_then (when (is_name name && is_name new) (tt {0}) BadName) (λ fine. if_number below empty others (ok_or (names name) NoEntry))

  abbrev if_names : Bool → Bool → Names → Result Files Fault
  if_names below empty names = and_then (directory_at seen to) (if_others below empty names)

  abbrev answer : Bool → Bool → Result Files Fault
  answer below empty = renamed seen clock d name to new below empty

  abbrev names_at : Found → Names
  names_at x = number_of content key x.block

  at_directory : (n : ℕ) (r : Result Found Fault) → directory_found content top n ≡ r → directory_at seen n ≡ and_then r (λ x. Ok (names_at x))
  at_directory n r is = directory_so state volume n ∙ ap (λ r. and_then r (λ x. Ok (names_at x))) is

  module _ (x x' : Found) (there : directory_found content top d ≡ Ok x) (there' : directory_found content top to ≡ Ok x') where
    both_found : (below empty : Bool) → answer below empty ≡ if_others below empty (names_at x) (names_at x')
    both_found below empty =
        ap (λ r. and_then r (if_names below empty)) (at_directory d (Ok x) there) ∙ ap (λ r. and_then r (if_others below empty (names_at x))) (at_directory to (Ok x') there')

    module _ (both : (is_name name && is_name new) ≡ true) where
      named : (is_name name ≡ true) × (is_name new ≡ true)
      named = and_parts (is_name name) (is_name new) both

      number_there : number_in seen d name ≡ ok_or (names_at x name) NoEntry
      number_there =
          ap (λ r. and_then (and_then r (λ names. when (is_name name) names BadName)) (λ names. ok_or (names name) NoEntry)) (at_directory d (Ok x) there)
          ∙ ap (λ t. and_then (when t (names_at x) BadName) (λ names. ok_or (names name) NoEntry)) named.0

      pub looked : (below empty : Bool) → answer below empty ≡ if_number below empty (names_at x') (number_in seen d name)
      looked below empty =
          both_found below empty
          ∙ (ap (λ t. and_then (when t (tt {0}) BadName) (λ fine. if_number below empty (names_at x') (ok_or (names_at x name) NoEntry))) both
          ∙ ap (if_number below empty (names_at x')) (sym number_there))

      -- what has the new name
      pub for_new : directory_for content top to new ≡ Ok x'
      for_new = ap (λ r. and_then r (λ (x : Found). if is_name new then Ok x else Err BadName)) there' ∙ ap (λ t. if t then Ok x' else Err BadName) named.1

      pub new_leads : names_at x' new ≡ option_map (λ (s : Slot). s.number) (slot_named content key x'.block new)
      new_leads = sym (numbers_named content x'.block new key)

      pub new_number : (slot : Slot) → slot_named content key x'.block new ≡ Some slot → number_in seen to new ≡ Ok slot.number
      new_number slot is =
          number_so state volume to new
          ∙ ap (λ r. and_then r (λ (s : Slot). Ok s.number))
          (ap (λ r. and_then r (λ (x : Found). named_in content key new x.block)) there'
          ∙ (ap (λ t. if t then ok_or (slot_named content key x'.block new) NoEntry else Err BadName) named.1 ∙ ap (λ o. ok_or o NoEntry) is))

  -- what was found

  pub record IsMoved (moved : Moved) : Type 0 where
    pub from : Found
    pub there : directory_found content top d ≡ Ok from
    pub into : Found
    pub there' : directory_found content top to ≡ Ok into
    pub both : (is_name name && is_name new) ≡ true
    pub old_is : ended_in content top d name ≡ Ok moved.old
    pub directory_is : moved.directory ≡ into.block
    pub no_cycle : is_cycle content top moved.old to ≡ false

  abbrev old_moved : ℕ → Ended → Result Moved Fault
  old_moved directory old = if is_cycle content top old to then Err Cycle else Ok (record { old = old; directory = directory })

  abbrev into_found : Found → Result Moved Fault
  into_found x' = if is_name name && is_name new then moved_old content top d name to x'.block else Err BadName

  pub moved_so : (moved : Moved) → moved_in content top d name to new ≡ Ok moved → IsMoved moved
  moved_so moved is =
      let one = then_ok (directory_found content top d) (λ (x : Found). and_then (directory_found content top to) into_found) moved is in
      let two = then_ok (directory_found content top to) into_found moved one.2 in
      by_names one.0 one.1 two.0 two.1 (is_name name && is_name new) refl two.2
    where
      by_cycle : (x : Found) → directory_found content top d ≡ Ok x → (x' : Found) → directory_found content top to ≡ Ok x' → (is_name name && is_name new) ≡ true →
          (old : Ended) → ended_in content top d name ≡ Ok old → (t : Bool) → is_cycle content top old to ≡ t → old_moved x'.block old ≡ Ok moved → IsMoved moved
      by_cycle x there x' there' both old old_is true h e = absurd (cc (sym (ap (λ t. if t then Err Cycle else Ok (record { old = old; directory = x'.block })) h) ∙ e))
      by_cycle x there x' there' both old old_is false h e =
          let same : record { old = old; directory = x'.block } ≡ moved =
          same_done (record { old = old; directory = x'.block }) moved (sym (ap (λ t. if t then Err Cycle else Ok (record { old = old; directory = x'.block })) h) ∙ e) in
          record {
            from = x;
            there = there;
            into = x';
            there' = there';
            both = both;
            old_is = old_is ∙ ap (λ (m : Moved). Ok m.old) same;
            directory_is = sym (ap (λ (m : Moved). m.directory) same);
            no_cycle = ap (λ (m : Moved). is_cycle content top m.old to) (sym same) ∙ h;
          }

      by_names : (x : Found) → directory_found content top d ≡ Ok x → (x' : Found) → directory_found content top to ≡ Ok x' → (t : Bool) →
          (is_name name && is_name new) ≡ t → into_found x' ≡ Ok moved → IsMoved moved
      by_names x there x' there' false h e = absurd (cc (sym (ap (λ t. if t then moved_old content top d name to x'.block else Err BadName) h) ∙ e))
      by_names x there x' there' true h e =
          let old = then_ok (ended_in content top d name) (old_moved x'.block) moved (sym (ap (λ t. if t then moved_old content top d name to x'.block else Err BadName) h) ∙ e) in
          by_cycle x there x' there' h old.0 old.1 (is_cycle content top old.0 to) refl old.2

  -- or not

  plain : (g : Fault) → answer false true ≡ Err g → IsNotMoved state volume d name to new g
  plain g answers = record { below = false; empty = true; answers = answers; within = λ z. absurd (cc z); filled = λ z. absurd (cc z) }

  pub not_moved : (g : Fault) → moved_in content top d name to new ≡ Err g → IsNotMoved state volume d name to new g
  not_moved g is = elim (then_fails (directory_found content top d) (λ (x : Found). and_then (directory_found content top to) into_found) g is) [
    | inl none ↦ plain g (ap (λ r. and_then r (if_names false true)) (at_directory d (Err g) none))
    | inr one ↦ elim (then_fails (directory_found content top to) into_found g one.2) [
      | inl none ↦ plain g (ap (λ r. and_then r (if_names false true)) (at_directory d (Ok one.0) one.1)
          ∙ ap (λ r. and_then r (if_others false true (names_at one.0))) (at_directory to (Err g) none))
      | inr two ↦ by_names one.0 one.1 two.0 two.1 (is_name name && is_name new) refl two.2
    ]
  ]
    where
      by_cycle : (x : Found) → directory_found content top d ≡ Ok x → (x' : Found) → directory_found content top to ≡ Ok x' → (is_name name && is_name new) ≡ true →
          (old : Ended) → ended_in content top d name ≡ Ok old → (t : Bool) → is_cycle content top old to ≡ t → old_moved x'.block old ≡ Err g →
          IsNotMoved state volume d name to new g
      by_cycle x there x' there' both old old_is false h e = absurd (cc (sym (ap (λ t. if t then Err Cycle else Ok (record { old = old; directory = x'.block })) h) ∙ e))
      by_cycle x there x' there' both old old_is true h e =
          let g_is : Cycle ≡ g = same_fault Cycle g (sym (ap (λ t. if t then Err Cycle else Ok (record { old = old; directory = x'.block })) h) ∙ e) in
          let at = ended_is content top d name old old_is in
          record {
            below = true;
            empty = true;
            answers = looked x x' there there' both true true ∙ (ended_so state volume d name (if_inode true true (names_at x')) old old_is ∙ ap Err g_is);
            within = λ z. (
              old.slot.number,
              number_so state volume d name ∙ ap (λ r. and_then r (λ (s : Slot). Ok s.number)) at.0,
              (and_parts (is_kind_directory old.inode.kind) (is_below content top old.slot.number most_above to) h).1,
            );
            filled = λ z. absurd (cc z);
          }

      by_names : (x : Found) → directory_found content top d ≡ Ok x → (x' : Found) → directory_found content top to ≡ Ok x' → (t : Bool) →
          (is_name name && is_name new) ≡ t → into_found x' ≡ Err g → IsNotMoved state volume d name to new g
      by_names x there x' there' false h e =
          plain g (both_found x x' there there' false true
          ∙ (ap (λ t. and_then (when t (tt {0}) BadName) (λ fine. if_number false true (names_at x') (ok_or (names_at x name) NoEntry))) h
          ∙ ap Err (same_fault BadName g (sym (ap (λ t. if t then moved_old content top d name to x'.block else Err BadName) h) ∙ e))))
      by_names x there x' there' true h e =
          elim (then_fails (ended_in content top d name) (old_moved x'.block) g (sym (ap (λ t. if t then moved_old content top d name to x'.block else Err BadName) h) ∙ e)) [
            | inl none ↦ plain g (looked x x' there there' h false true ∙ none_ended state volume d name (if_inode false true (names_at x')) g none)
            | inr old ↦ by_cycle x there x' there' h old.0 old.1 (is_cycle content top old.0 to) refl old.2
          ]
