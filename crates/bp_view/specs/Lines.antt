-- The lines of summaries.
use Rattle.std.specs.Prelude.{Bool, true, false, List, [], ◌++◌, flat_map, ℕ, codes, decimal}
use Rattle.bp_view.specs.declared.summary.Summary.{Summary}

abbrev pub over_text : Bool → List ℕ
over_text true = codes " over"
over_text false = []

unfoldable pub summary_line : Summary → List ℕ
summary_line s =
    codes "view records " ++ (decimal s.records ++ (codes " steps " ++ (decimal s.steps
    ++ (codes " live " ++ (decimal s.live ++ (codes " queue " ++ (decimal s.queue
    ++ (over_text s.over ++ codes "\n"))))))))

unfoldable pub summary_lines : List Summary → List ℕ
summary_lines list = flat_map summary_line list
