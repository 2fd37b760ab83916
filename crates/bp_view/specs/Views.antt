-- The view of a run.
use Rattle.std.specs.Prelude.{◌≡◌, ℕ, ◌≤◌, true, List, [], ◌∷◌, length, take, Option, Some, option_map, All}
use Rattle.bp_log.specs.Options.{PlainOptions}
use Rattle.bp_log.specs.Records.{is_complete}
use Rattle.bp_log.specs.declared.record.Record.{Record}
use Rattle.bp_run.specs.Bodies.{Code}
use Rattle.bp_run.specs.Configuration.{Configuration, not_ended}
use Rattle.bp_run.specs.Story.{story}
use Rattle.bp_view.specs.declared.summary.Summary.{Summary}
use Rattle.bp_view.specs.Growing.{grows, last_of}
use Rattle.bp_view.specs.Lines.{summary_line, summary_lines}

-- the summary of these records, which lead to this configuration
abbrev pub summary_at : {O : Type 0} → List Record → Configuration O → Summary
summary_at records c = record {
  records = length records;
  steps = c.stand.transitions;
  live = not_ended c.stand;
  queue = length c.stand.queue;
  over = is_complete records;
}

module _ {O S : Type 0} (code : Code O S) (o : PlainOptions) where
  -- the summary of the records, where they are a story
  abbrev pub summary_of : List Record → Option Summary
  summary_of records = option_map (summary_at records) (story code o records)

  -- the line of the records, where they are a story
  abbrev pub view_of : List Record → Option (List ℕ)
  view_of records = option_map summary_line (summary_of records)

  -- the summary of a beginning of the records
  pub record IsOfBeginning (records : List Record) (s : Summary) : Type 0 where
    pub within : s.records ≤ length records
    pub is : summary_of (take s.records records) ≡ Some s

  -- summaries of beginnings of the records, the first of no records, that never go back
  pub record AreOfRun (records : List Record) (list : List Summary) : Type 0 where
    pub each : All (IsOfBeginning records) list
    pub grows : grows list ≡ true
    pub first : Summary
    pub later : List Summary
    pub begins : list ≡ first ∷ later
    pub none : summary_of [] ≡ Some first

  -- the text of a view of the records: lines of such summaries
  pub record IsViewText (records : List Record) (text : List ℕ) : Type 0 where
    pub shown : List Summary
    pub of_run : AreOfRun records shown
    pub lines : text ≡ summary_lines shown

  -- and the last line is that of all of them
  pub record IsWholeViewText (records : List Record) (text : List ℕ) : Type 0 where
    pub view : IsViewText records text
    pub last : last_of view.shown ≡ summary_of records
