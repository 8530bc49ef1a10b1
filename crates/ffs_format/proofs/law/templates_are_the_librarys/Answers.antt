use Rattle.std.proofs.Common.{◌≡◌, ℕ, ◌<◌, ◌≤◌, ◌++◌, ◌∙◌, ap, sym, get_or, take, refl, lit<, inl, inr, arith, subst}
use Rattle.std.specs.Prelude.{Some, None, map, is_some, IsTrue}
use Rattle.std.proofs.lemmas.Bool.{cases_eq}
use Rattle.std.proofs.lemmas.List.{get_or-take}
use Rattle.templates.specs.Formats.{table_of}
use Rattle.templates.specs.Tables.{TableValue, owned_under, size_under, template_of, table_types}
use Rattle.ffs_model.specs.Library.{IsLibrary}
use Rattle.ffs_format.specs.Library.{file_system_templates, inode_template, pointer_template, library_root}
use Rattle.ffs_format.proofs.OwnedPairs.{root_owns, inodes_own, pointers_own, root_sized, inodes_sized, pointers_sized}
use Rattle.ffs_format.proofs.law.templates_are_the_librarys.Goals as goal

-- the place of a type in the catalogue
named : (table : TableValue) → take 3 table ≡ map Some file_system_templates → (i : ℕ) → i < 3 → get_or table i None ≡ get_or (map Some file_system_templates) i None
named table begins i few = sym (get_or-take 3 table i None few) ∙ ap (λ l. get_or l i None) begins

first_three : (table : TableValue) → take 3 table ≡ map Some file_system_templates → IsLibrary (table_types table)
unfolding table_types template_of
first_three table begins =
    let root = named table begins 0 (lit< tt) in
    let inodes = named table begins 1 (lit< tt) in
    let pointers = named table begins 2 (lit< tt) in
    record {
      installed = λ t low high. installed_there t low high;
      root = λ m. ap (λ t. owned_under t m) root ∙ root_owns m;
      inodes = λ m. ap (λ t. owned_under t m) inodes ∙ inodes_own m;
      indirect = λ m. ap (λ t. owned_under t m) pointers ∙ pointers_own m;
      root_size = λ m. ap (λ t. size_under t m) root ∙ root_sized m;
      inodes_size = λ m. ap (λ t. size_under t m) inodes ∙ inodes_sized m;
      indirect_size = λ m. ap (λ t. size_under t m) pointers ∙ pointers_sized m;
    }
  where
    installed_there : (t : ℕ) → 3 ≤ t → t ≤ 5 → IsTrue (is_some (template_of table t))
    installed_there t low high = elim (cases_eq t 3) [
      | inl e ↦ subst (λ n. IsTrue (is_some (template_of table n))) (sym e) (ap is_some (named table begins 0 (lit< tt)))
      | inr ne ↦ elim (cases_eq t 4) [
        | inl e ↦ subst (λ n. IsTrue (is_some (template_of table n))) (sym e) (ap is_some (named table begins 1 (lit< tt)))
        | inr ne' ↦ let e : t ≡ 5 = omega arith in subst (λ n. IsTrue (is_some (template_of table n))) (sym e) (ap is_some (named table begins 2 (lit< tt)))
      ]
    ]

pub returns-clause-table : goal.returns-clause-table
returns-clause-table c = first_three

pub returns-clause-formatted : goal.returns-clause-formatted
returns-clause-formatted c = λ others. first_three (table_of (file_system_templates ++ others)) refl

pub returns-clause-types : goal.returns-clause-types
returns-clause-types c = λ T has.
    let three = has 0 library_root refl in
    let four = has 1 inode_template refl in
    let five = has 2 pointer_template refl in
    record {
      installed = λ t low high. elim (cases_eq t 3) [
        | inl e ↦ subst (λ n. IsTrue (T.installed n)) (sym e) three.installed
        | inr ne ↦ elim (cases_eq t 4) [
          | inl e ↦ subst (λ n. IsTrue (T.installed n)) (sym e) four.installed
          | inr ne' ↦ let e : t ≡ 5 = omega arith in subst (λ n. IsTrue (T.installed n)) (sym e) five.installed
        ]
      ];
      root = λ m. three.owned m ∙ root_owns m;
      inodes = λ m. four.owned m ∙ inodes_own m;
      indirect = λ m. five.owned m ∙ pointers_own m;
      root_size = λ m. three.size m ∙ root_sized m;
      inodes_size = λ m. four.size m ∙ inodes_sized m;
      indirect_size = λ m. five.size m ∙ pointers_sized m;
    }
