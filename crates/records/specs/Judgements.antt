-- What a forget and a why ask of the records in use, and what they are told of them. Assumes nothing.
use Rattle.std.specs.Prelude.{ℕ, cond, List, drop, Option, Some, None}
use Rattle.rules.specs.Lists.{every}
use Rattle.rules.specs.Records.{HistoryRecord, kept_tests, places_taken}

-- "10 .. also when any used record is ill-formed or the kept number differs from the records in use" (02 i), of those records; of records that pass, how many places
-- lie below the newest `stay`
unfoldable pub judgement : (n count kept stay : ℕ) → List HistoryRecord → Option ℕ
judgement n count kept stay ws = cond (every (kept_tests n count kept ws)) (Some (places_taken (drop stay ws))) None
