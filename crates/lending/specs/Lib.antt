-- Nothing here must be believed: no contract of a public function names it.
pub mod Room
