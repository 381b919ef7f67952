-- Tokens as the plain data of the definitions.
use Rattle.std.specs.Prelude.{List, map}
use Rattle.verdict_terms.specs.BoundedRefutation.{BoundedToken as PlainBounded, Plain as PlainPlain}
use Rattle.verdict_terms.specs.BoundedRefutation.{PricedOut as PlainPricedOut, Exchange as PlainExchange}
use Rattle.proof_tree.specs.Plain.{plain_token}
use Rattle.bounded_tokens.specs.declared.token.BoundedToken.{BoundedToken}
use Rattle.bounded_tokens.specs.declared.token.BoundedToken.TheVariants.{Plain, PricedOut, Exchange}

-- a token, with its scale functions as a list
abbrev pub plain_bounded : BoundedToken → PlainBounded
plain_bounded (Plain t) = PlainPlain (plain_token t)
plain_bounded (PricedOut q p tuple) = PlainPricedOut q p tuple.items
plain_bounded (Exchange left_no taken_no) = PlainExchange left_no taken_no

abbrev pub plain_bounded_tokens : List BoundedToken → List PlainBounded
plain_bounded_tokens tokens = map plain_bounded tokens
