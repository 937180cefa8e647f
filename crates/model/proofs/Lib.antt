-- Laws of the definitions, for the crates above. A file cites files above it.
pub mod Compute
pub mod Examples
-- small laws
pub mod Booleans
pub mod Lists
pub mod Every
pub mod Times
pub mod KindNumbers
pub mod SortTests
pub mod Children
pub mod GoodForms
pub mod SortWidths
pub mod Within
-- what Check accepts is well formed
pub mod Refusals
pub mod First
pub mod Loops
pub mod Sorts
pub mod Decoded
pub mod Accepted
pub mod Uses
-- refusals are exact, and each call has one answer: demand 1
pub mod Hits
pub mod CallRefusals
pub mod Answers
pub mod Passing
-- widths
pub mod Renaming
pub mod Fits
pub mod Variables
pub mod Joins
pub mod Equations
pub mod Reading
-- runs and passive forms, over the join rule
pub mod Runs
pub mod Soundness
pub mod Valuations
pub mod Completeness
pub mod Choices
pub mod Sizes
pub mod Statements
pub mod Tables
pub mod Theorem
-- the node list, and the evaluation of the condition
pub mod NodeList
pub mod Entries
pub mod Evaluation
pub mod Formed
pub mod EntrySorts
pub mod Accepts
pub mod WordsFit
pub mod EvaluatedFits
-- demands 2 and 3
pub mod CallsGive
pub mod Demands
