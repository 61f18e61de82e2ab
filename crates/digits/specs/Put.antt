-- What a writer does: bytes put into what is lent, from a place on, and the place after them.
use Rattle.std.specs.Prelude.{◌≡◌, List, ℕ, ◌+◌, length}
use Rattle.std.proofs.lemmas.List.Edits.{sets}
use Rattle.digits.specs.declared.Line.{Line}

pub record Put (before after : Line) (bytes : List ℕ) : Type 0 where
  pub end : after.at ≡ before.at + length bytes
  pub written : after.out.now ≡ sets before.out.now before.at bytes
  pub same : after.out.ghost_name ≡ before.out.ghost_name
