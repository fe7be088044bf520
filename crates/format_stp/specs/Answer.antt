-- What the answer of reading an STP text says in the terms of the definitions: n and m, or a refusal.
use Rattle.base_limits.specs.Verdict.{Outcome, refusal, answer}
use Rattle.format_survey.specs.Line.{SurveyCounts}
use Rattle.format_stp.specs.StpReading.{StpContent}
use Rattle.format_stp.specs.declared.StpRead.{StpRead}
use Rattle.format_stp.specs.declared.StpRead.TheVariants.{Survey as SurveyRead, Refused as ReadRefused}

unfoldable pub stp_answer : StpRead → Outcome SurveyCounts
stp_answer (SurveyRead n m) = answer (record { vertices = n; edges = m })
stp_answer (ReadRefused number place) = refusal number place

unfoldable pub stp_counts_of : Outcome StpContent → Outcome SurveyCounts
stp_counts_of (refusal number place) = refusal number place
stp_counts_of (answer x) = answer (record { vertices = x.vertices; edges = x.edges })
