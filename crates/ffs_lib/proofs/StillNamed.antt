-- A name that is moved is still there once the inode is named a second time.
use Rattle.std.proofs.Common.{◌≡◌, ◌≢◌, ℕ, Bool, true, false, List, ◌∷◌, ◌++◌, Option, Some, None, Result, Ok, Err, refl, sym, ◌∙◌, ap, inl, inr, IsTrue, bytes_eq, find, if◌then◌else◌, option_map, ok_or}
use Rattle.ffs_lib.proofs.Common.{BadName, FfsFault, NoEntry, Slot, cases_eq, is_name, none-some}
use Rattle.ffs_lookup.specs.Newest.{and_then, directory_in, slots_of, entry_named, first_named, listing, named_in}
use Rattle.ffs_lookup.proofs.ForCallers.{same_ok}
use Rattle.ffs_lib.specs.Results.{AsBefore, HasMore, IsAs, SameInode}
use Rattle.ffs_lib.proofs.Entering.{directory_from, directory_same}
use Rattle.ffs_lib.proofs.Moving.{directory_to}
use Rattle.ffs_lib.proofs.Firsts.{find_listed, find_skip, named_among, same_bytes}

pub named_to : (content : ℕ → List ℕ) (fs d : ℕ) (name inode : List ℕ) (entry : Slot) → Ok inode ≡ directory_in content fs d → IsTrue (is_name name) → Some entry ≡ first_named content inode name → Ok entry ≡ named_in content fs d name
unfolding named_in
named_to content fs d name inode entry e good first =
    ap (λ (o : Option Slot). ok_or o NoEntry) first
    ∙ (ap (λ (t : Bool). if t then ok_or (first_named content inode name) NoEntry else Err BadName) (sym good) ∙ ap (λ (r : Result (List ℕ) FfsFault). and_then r (entry_named content name)) e)

module _ (u0 u1 u2 : ℕ → List ℕ) (fs d : ℕ) (name : List ℕ) (other : ℕ) (new_name from to : List ℕ) (is_from : Ok from ≡ directory_in u0 fs d) (is_to : Ok to ≡ directory_in u0 fs other) (slot : Slot) (n : ℕ)
    (good : IsTrue (is_name name)) (first : Some slot ≡ first_named u0 from name) (free : None ≡ first_named u0 to new_name) (linked : (x : ℕ) → AsBefore u0 u1 fs x)
    (enters : ((inode : List ℕ) → Ok inode ≡ directory_in u1 fs other → HasMore u1 u2 fs other inode new_name n) × ((e : ℕ) → e ≢ other → SameInode u1 u2 fs e)) where
  from1 : IsAs u0 u1 fs d from
  from1 = linked d from (directory_from u0 fs d from is_from).0

  pub to1 : IsAs u0 u1 fs other to
  to1 = linked other to (directory_from u0 fs other to is_to).0

  pub to_there : Ok to1.after ≡ directory_in u1 fs other
  to_there = directory_to u1 fs other to1.after to1.found (to1.mode ∙ (directory_from u0 fs other to is_to).1)

  by_listing : (inode : List ℕ) → named_among name (listing u2 inode) ≡ named_among name (listing u0 from) → Some slot ≡ first_named u2 inode name
  by_listing inode e = first ∙ (find_listed u0 name (slots_of u0 from) ∙ (sym e ∙ sym (find_listed u2 name (slots_of u2 inode))))

  apart : d ≢ other → Ok slot ≡ named_in u2 fs d name
  apart ne =
      let same = enters.1 d ne in
      let here : Ok from1.after ≡ directory_in u1 fs d = directory_to u1 fs d from1.after from1.found (from1.mode ∙ (directory_from u0 fs d from is_from).1) in
      named_to u2 fs d name from1.after slot (here ∙ sym (directory_same u1 u2 fs d same.0)) good (by_listing from1.after (ap (named_among name) ((same.1 from1.after from1.found).0 ∙ from1.entries)))

  within : d ≡ other → Ok slot ≡ named_in u2 fs d name
  within e =
      let more = enters.0 to1.after to_there in
      let test = λ (p : Slot × List ℕ). bytes_eq p.1 name in
      let one : from ≡ to = same_ok from to (is_from ∙ (ap (directory_in u0 fs) e ∙ sym is_to)) in
      let was : listing u0 from ≡ more.front ++ more.back = ap (listing u0) one ∙ (sym to1.entries ∙ more.was) in
      let skip : find test (more.front ++ (more.entry, new_name) ∷ more.back) ≡ find test (more.front ++ more.back) = find_skip test more.front more.back (more.entry, new_name) (another one (bytes_eq new_name name) refl) in
      named_to u2 fs d name more.after slot (more.directory ∙ ap (directory_in u2 fs) (sym e)) good
      (by_listing more.after (ap (named_among name) more.is ∙ (ap (option_map (λ (p : Slot × List ℕ). p.0)) skip ∙ ap (named_among name) (sym was))))
    where
      another : from ≡ to → (t : Bool) → bytes_eq new_name name ≡ t → t ≡ false
      another one false f = refl
      another one true f = absurd (none-some slot (sym (first ∙ (ap (first_named u0 from) (sym (same_bytes new_name name f)) ∙ (ap (λ m. first_named u0 m new_name) one ∙ sym free)))))

  pub still_named : Ok slot ≡ named_in u2 fs d name
  still_named = elim (cases_eq d other) [ inl e ↦ within e | inr ne ↦ apart ne ]
