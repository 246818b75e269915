-- What is refused signs nothing off.
use mathlib.Core.Path.{ap}
use Rattle.tracker.specs.declared.tracker.Tracker.{Tracker}
use Rattle.signing.specs.Numbers.{signed_number, signed_place, signed_yes}
use Rattle.signing.specs.SignRefusalPromise.{SignRefusalPromise}
use Rattle.signing.proofs.Signs.{sign_promise}
use Rattle.signing.proofs.CaptureSigns.{capture_promise}

pub refusal_promise : (t : Tracker) → SignRefusalPromise t
refusal_promise t = record {
  sheet = λ ls f e.
      let r = (sign_promise t ls).refused f e in
      (ap signed_number r, ap signed_place r, ap signed_yes r);
  long_signed = λ profile ls capture h.
      let r = (capture_promise profile ls capture).long h in
      (ap signed_number r, ap signed_place r, ap signed_yes r);
  yes = λ ls e. (ap signed_number e, ap signed_place e, ap signed_yes e);
  no = λ ls e. (ap signed_number e, ap signed_place e, ap signed_yes e);
}
