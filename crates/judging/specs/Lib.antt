-- What must be believed: the rules of the refusals 1 to 4 and 13, and the number of an answer; then the promises.
pub mod Judge
pub mod Numbers
pub mod JudgePromise
pub mod StepPromise
pub mod ZeroRowsPromise
