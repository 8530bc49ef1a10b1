-- What was printed stands where it is then flushed.
use Rattle.std.proofs.Common.{ℕ, List, Option, Some, None, ◌∙◌}
use Rattle.std.specs.Io.KnownBytes.{Appends, Keeps}
use Rattle.xnsim_line.specs.declared.invocation.Invocation.{Invocation}
use Rattle.xnsim_line.specs.declared.invocation.Stop.{Stop}
use Rattle.xnsim_line.specs.declared.invocation.Invocation.TheVariants.{Bare, Format, Run, Check, Asm, Verify}
use Rattle.xnsim_line.specs.Assembling.{PrintsTemplate}
use Rattle.xnsim_line.specs.Done.{IsDone, IsLineDone}
use Rattle.xnsim_line.specs.Files.{Held}
use Rattle.xnsim_line.specs.Programs.{PrintsAccepted}
use Rattle.xnsim_line.specs.Runs.{IsMountedRun, IsPrintedRun}
use Rattle.xnsim_line.specs.Stops.{IsAskedRun, IsStoppedRun}
use Rattle.xn_model.specs.Worlds.{World}
use Rattle.udf_verify.specs.declared.fault.Role.{Role}
use Rattle.xn_state.specs.declared.event.Event.{Event}

appends_kept : (old mid new : Option (List ℕ)) (bytes : List ℕ) → Appends old mid bytes → Keeps mid new → Appends old new bytes
appends_kept None mid new bytes printed flushed = tt
appends_kept (Some xs) None new bytes printed flushed = absurd printed
appends_kept (Some xs) (Some ys) None bytes printed flushed = absurd flushed
appends_kept (Some xs) (Some ys) (Some zs) bytes printed flushed = flushed ∙ printed

module _ (old mid new : Option (List ℕ)) (flushed : Keeps mid new) where
  run_kept : (from : World) (events : List Event) (image : List ℕ) → IsPrintedRun from events old mid image → IsPrintedRun from events old new image
  run_kept from events image run =
      record { replies = run.replies; after = run.after; run = run.run; printed = appends_kept old mid new _ run.printed flushed; left = run.left }

  mounted_kept : (image : List ℕ) (events : List Event) (after : List ℕ) → IsMountedRun image events old mid after → IsMountedRun image events old new after
  mounted_kept image events after run =
      record { sound = run.sound; run = run_kept _ events after run.run }

  stopped_kept : (from : World) (events : List Event) (stop : Stop) (image : List ℕ) → IsStoppedRun from events stop old mid image → IsStoppedRun from events stop old new image
  stopped_kept from events stop image run = record {
    done = run.done;
    rest = run.rest;
    all = run.all;
    replies = run.replies;
    before = run.before;
    run = run.run;
    writes_left = run.writes_left;
    counted = run.counted;
    after = run.after;
    end = run.end;
    printed = appends_kept old mid new _ run.printed flushed;
    reached = run.reached;
  }

  asked_kept : (stop : Option Stop) (image : List ℕ) (events : List Event) (after : List ℕ) → IsAskedRun stop image events old mid after → IsAskedRun stop image events old new after
  asked_kept None image events after run = mounted_kept image events after run
  asked_kept (Some stop) image events after run = record { sound = run.sound; run = stopped_kept _ events stop after run.run }

  template_kept : (held held_after : Held) (block_name owns_text size_text : List ℕ) →
      PrintsTemplate held held_after block_name owns_text size_text old mid → PrintsTemplate held held_after block_name owns_text size_text old new
  template_kept held held_after block_name owns_text size_text done = record {
    template = done.template;
    block = done.block;
    read = done.read;
    made = done.made;
    written = done.written;
    printed = appends_kept old mid new _ done.printed flushed;
  }

  accepted_kept : (text : List ℕ) (role : Role) → PrintsAccepted text role old mid → PrintsAccepted text role old new
  accepted_kept text role done =
      record { words = done.words; written = done.written; accepted = done.accepted; printed = appends_kept old mid new _ done.printed flushed }

  done_kept : (input : Option (List ℕ)) (held held_after : Held) (asked : Invocation) → IsDone input held held_after asked old mid → IsDone input held held_after asked old new
  done_kept input held held_after Bare done = (
    record {
      text = done.0.text;
      events = done.0.events;
      image = done.0.image;
      read = done.0.read;
      short = done.0.short;
      script = done.0.script;
      run = run_kept _ done.0.events done.0.image done.0.run;
    },
    done.1,
  )
  done_kept input held held_after (Format image blocks file_system templates) done = record {
    files = done.files;
    own = done.own;
    image = done.image;
    files_held = done.files_held;
    read = done.read;
    few = done.few;
    made = done.made;
    written = done.written;
    printed = appends_kept old mid new _ done.printed flushed;
  }
  done_kept input held held_after (Run image script stop) done = record {
    image = done.image;
    text = done.text;
    events = done.events;
    after = done.after;
    image_held = done.image_held;
    held_whole = done.held_whole;
    script_held = done.script_held;
    script_short = done.script_short;
    script = done.script;
    run = asked_kept stop done.image done.events done.after done.run;
    written = done.written;
  }
  done_kept input held held_after (Check image) done = record {
    image = done.image;
    reached = done.reached;
    free = done.free;
    image_held = done.image_held;
    sound = done.sound;
    report = done.report;
    printed = appends_kept old mid new _ done.printed flushed;
    kept = done.kept;
  }
  done_kept input held held_after (Asm owns size block) done = record {
    owns_text = done.owns_text;
    size_text = done.size_text;
    owns_held = done.owns_held;
    size_held = done.size_held;
    owns_short = done.owns_short;
    size_short = done.size_short;
    not_owns = done.not_owns;
    not_size = done.not_size;
    template = template_kept held held_after _ done.owns_text done.size_text done.template;
  }
  done_kept input held held_after (Verify name role) done =
      record { text = done.text; text_held = done.text_held; text_short = done.text_short; accepted = accepted_kept done.text role done.accepted; kept = done.kept }

  pub line_kept : (input : Option (List ℕ)) (held held_after : Held) (words : List (List ℕ)) → IsLineDone input held held_after words old mid → IsLineDone input held held_after words old new
  line_kept input held held_after words done = (done.0, done.1, done_kept input held held_after done.0 done.2)
