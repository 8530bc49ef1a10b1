-- The command line, as its reader takes it.
use Rattle.std.specs.Prelude.{true, codes}
use Rattle.clap.specs.Words.{App, Rule, Text, new_app, new_rule, with_rule, with_subcommand}
use Rattle.clap.specs.Simple.{on_top}

-- a word that has to be there
abbrev pub wanted : Text → Rule
wanted id = record (new_rule id) { required = true }

-- a command that is followed by two words
abbrev pub two_words : Text → App
two_words name =
    with_rule (with_rule (on_top (λ shape. record shape { disable_help_flag = true }) (new_app name)) (wanted (codes "first"))) (wanted (codes "second"))

-- the program without its commands
abbrev pub no_commands : App
no_commands = on_top (λ shape. record shape { no_binary_name = true; disable_help_flag = true; disable_help_subcommand = true }) (new_app (codes "xnsim"))

-- the program: each of its commands is followed by two words at least, and the reader takes no others
abbrev pub program : App
program =
    with_subcommand (with_subcommand (with_subcommand (with_subcommand no_commands (two_words (codes "format")).top) (two_words (codes "run")).top)
    (two_words (codes "asm")).top) (two_words (codes "verify")).top
