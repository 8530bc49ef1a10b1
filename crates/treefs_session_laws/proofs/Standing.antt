-- A name leads where it led, and a directory stands where it stood, also where orphans are gone.
use Rattle.std.proofs.Common.{◌≡◌, ◌⊎◌, ℕ, true, List, Option, None, Some, Result, Ok, Err, refl, sym, ◌∙◌, ap, inl, inr, subst, if◌then◌else◌}
use Rattle.std.specs.Option.{ok_or}
use Rattle.std.proofs.lemmas.Bool.{eq-eqb}
use Rattle.std.proofs.lemmas.Option.{same_Some}
use Rattle.treefs_format.specs.Names.{is_name}
use Rattle.treefs_model.specs.Files.{Content, Directory, File, Files, Inode, Names, SymbolicLink, and_then, linked_names, names_in, number_in, when}
use Rattle.treefs_model.specs.declared.fault.Fault.{Fault}
use Rattle.treefs_model.specs.declared.fault.Fault.TheVariants.{BadName, NoEntry}
use Rattle.treefs_laws.specs.Moved.{IsOfDirectory}
use Rattle.treefs_laws.specs.Orphans.{IsLeftOf, IsOrphan, IsReaped}
use Rattle.treefs_laws.proofs.ForCallers.{is_orphan_or_not, orphan_then}

-- a number that a name of an inode leads to
abbrev led_by : Result Names Fault → List ℕ → Result ℕ Fault
led_by found name = and_then (and_then found (λ names. when (is_name name) names BadName)) (λ names. ok_or (names name) NoEntry)

abbrev led_from : Option Inode → List ℕ → Result ℕ Fault
led_from o name = led_by (and_then (ok_or o NoEntry) linked_names) name

-- none leads from an inode without links
no_links : (inode : Inode) (name : List ℕ) (n : ℕ) → inode.links ≡ 0 → led_from (Some inode) name ≡ Ok n → ⊥
no_links inode name n none leads = by (names_in inode.content)
    (sym (ap (λ t. led_by (and_then (names_in inode.content) (λ names. if t then Err NoEntry else Ok names)) name) (eq-eqb inode.links 0 none)) ∙ leads)
  where
    by : (r : Result Names Fault) → led_by (and_then r (λ names. if true then Err NoEntry else Ok names)) name ≡ Ok n → ⊥
    by (Ok names) e = absurd (cc e)
    by (Err fault) e = absurd (cc e)

left_parent : (content left : Content) (parent : ℕ) (names : Names) → left ≡ Directory parent names → IsLeftOf content left →
    (directory : ℕ) × (others : Names) × (content ≡ Directory directory others) × (parent ≡ directory)
left_parent content left parent names is part = by content (subst (IsLeftOf content) is part)
  where
    by : (content : Content) → IsLeftOf content (Directory parent names) →
        (directory : ℕ) × (others : Names) × (content ≡ Directory directory others) × (parent ≡ directory)
    by (Directory directory others) part = (directory, others, refl, part.0)
    by (File bytes) part = absurd part
    by (SymbolicLink bytes) part = absurd part

module _ (Among : ℕ → Type 0) (tells : (n : ℕ) → Among n ⊎ (Among n → ⊥)) (old new : Files) (reaped : IsReaped Among old new) (d : ℕ) (name : List ℕ) where
  number_was : (n : ℕ) → number_in new d name ≡ Ok n → number_in old d name ≡ Ok n
  number_was n leads = elim (is_orphan_or_not Among tells old d) [
    | inr not_orphan ↦ sym (ap (λ o. led_from o name) (reaped.others d not_orphan)) ∙ leads
    | inl orphan ↦ absurd (by orphan (new d) refl)
  ]
    where
      by : IsOrphan Among old d → (o : Option Inode) → new d ≡ o → ⊥
      by orphan None is = absurd (cc (sym (ap (λ o. led_from o name) is) ∙ leads))
      by orphan (Some inode) is =
          let still = orphan_then Among tells old new reaped d orphan (λ none. absurd (cc (sym is ∙ none))) in
          no_links still.inode name n still.unlinked (sym (ap (λ o. led_from o name) still.there) ∙ leads)

  pub stands_still : IsOfDirectory old d name → IsOfDirectory new d name
  stands_still of = record {
    other = λ n leads. of.other n (number_was n leads);
    stands = λ n inode parent names leads there is. elim (is_orphan_or_not Among tells old n) [
      | inr not_orphan ↦ of.stands n inode parent names (number_was n leads) (sym (reaped.others n not_orphan) ∙ there) is
      | inl orphan ↦ by n inode parent names leads there is orphan
    ];
  }
    where
      from : (n parent : ℕ) (orphan : IsOrphan Among old n) → number_in old d name ≡ Ok n →
          (directory : ℕ) × (others : Names) × (orphan.inode.content ≡ Directory directory others) × (parent ≡ directory) → parent ≡ d
      from n parent orphan leads (directory, others, is, same) = same ∙ of.stands n orphan.inode directory others leads orphan.there is

      by : (n : ℕ) (inode : Inode) (parent : ℕ) (names : Names) → number_in new d name ≡ Ok n → new n ≡ Some inode → inode.content ≡ Directory parent names →
          IsOrphan Among old n → parent ≡ d
      by n inode parent names leads there is orphan =
          let l = reaped.left n orphan.inode orphan orphan.there (λ none. absurd (cc (sym there ∙ none))) in
          let same : record orphan.inode { content = l.0 } ≡ inode = same_Some (record orphan.inode { content = l.0 }) inode (sym l.2 ∙ there) in
          from n parent orphan (number_was n leads) (left_parent orphan.inode.content l.0 parent names (ap (λ (i : Inode). i.content) same ∙ is) l.1)
