-- What must be believed: the refusals' numbers and how they print, rules in an order, and contracts that admit one answer; then the promises.
pub mod Refusal
pub mod Printed
pub mod NumberPromise
pub mod Rule
pub mod OneAnswer
pub mod RulePromise
