-- A run before the first record of its log.
use Rattle.std.proofs.Common.{◌≡◌, ℕ, false, List, [], ◌++◌, refl, ap, sym, Option, Some, None, Err}
use Rattle.std.specs.Prelude.{IfSome}
use Rattle.js_program.specs.PlainProgram.{PlainProgram}
use Rattle.bp_log.specs.Options.{PlainOptions}
use Rattle.bp_log.specs.declared.version.Version.{Version}
use Rattle.bp_reading.specs.Reading.{Stage, first_stage}
use Rattle.bp_run.specs.Settling.{opening}
use Rattle.bp_run.specs.Story.{story, story_from}
use Rattle.bp_arbiter.specs.Arbiters.{PlainArbiter, StandsFor, opened, is_lent}
use Rattle.bp_told.specs.Pages.{ShowsFront}
use Rattle.bp_told.proofs.Pieces.{shows_page}
use Rattle.bp_replay.specs.declared.fault.ReplayFault.TheVariants as fault
use Rattle.bp_replay.specs.Courses.{text_in}
use Rattle.bp_replay.specs.Following.{first_course, first_of, IsOnWay, Tells}
use Rattle.bp_replay.proofs.Tales.{reads_first}

-- an arbiter that was opened is on the way of its first course
pub on_way_first : (v : Version) (a : PlainArbiter) → a.records ≡ [] → is_lent a.phase ≡ false → StandsFor a [] [] opening → IsOnWay (first_of v a) [] a
unfolding story story_from
on_way_first v a r u s =
    record {
      runs = record { code = refl; options = refl; told = refl; going = refl; reads = reads_first _ _ };
      records = r;
      unlent = u;
      stands = (opening, s);
      more = (first_of v a).told.stand.lines;
      lines = refl;
    }

pub on_way_opened : (v : Version) (program : PlainProgram) (options : PlainOptions) (a : PlainArbiter) → a ≡ opened program options → StandsFor a [] [] opening → IsOnWay (first_of v a) [] a
on_way_opened v program options a e s = on_way_first v a (ap (λ (x : PlainArbiter). x.records) e) (ap (λ (x : PlainArbiter). is_lent x.phase) e) s

-- memory ran out before anything ran
pub tells_nothing : (v : Version) (program : PlainProgram) (options : PlainOptions) (rest : Option (List ℕ)) (s : Stage) (before : Option (List ℕ)) (page : List ℕ) → s ≡ first_stage v options.injectors → ShowsFront before (text_in (first_course v program options)) page before →
    IfSome rest (λ bytes. Tells (first_course v program options) bytes before page before (Err fault.Memory))
unfolding story story_from
tells_nothing v program options None s before page e shown = tt
tells_nothing v program options (Some bytes) s before page e shown =
    record {
      course = first_course v program options;
      program = refl;
      options = refl;
      version = refl;
      stage = first_stage v options.injectors;
      left = bytes;
      follows = record { begins = (refl, refl); told = refl };
      ends = tt;
      shown = shown;
    }

pub front_nothing : (before : Option (List ℕ)) (page text : List ℕ) → page ≡ [] → ShowsFront before text page before
front_nothing before page text e = record { shown = page; rest = text; is_text = sym (ap (λ (x : List ℕ). x ++ text) e); shows = shows_page before page }
