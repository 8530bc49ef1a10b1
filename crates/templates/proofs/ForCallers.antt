-- What crates above cite in their proofs. They import no other module of these proofs.
pub use Rattle.templates.proofs.BuiltInTypes.{tables_have_built_ins}
pub use Rattle.templates.proofs.FreshDisks.{formatted_has_its_blocks, formatted_has_its_templates, formatted_holds, formatted_is_found, formatted_is_sound, mount_recovers}
pub use Rattle.templates.proofs.FreshRoots.{distinct_named, get_or-named, length-named, named, slot_blank}
pub use Rattle.templates.proofs.Installed.{language_none, language_ok, language_some, none_there, put_types}
pub use Rattle.templates.proofs.Meanings.{tables_are_catalogues}
pub use Rattle.templates.proofs.OneSpelling.{blocks_are_templates}
pub use Rattle.templates.proofs.TablePlaces.{at_place, tells}
pub use Rattle.templates.proofs.Turns.{Turned, all_turns, loop_pairs, looped, number_is_word, one_by_one, plain, turn_ends, written}
pub use Rattle.templates.proofs.WordsWritten.{drop-zeros}
