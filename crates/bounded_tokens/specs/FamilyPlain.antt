-- Tokens as the plain data of the definitions.
use Rattle.std.specs.Prelude.{List, map}
use Rattle.verdict_terms.specs.FamilyRefutation.{FamilyToken as PlainToken, Plain as PlainPlain, Family as PlainFamily}
use Rattle.proof_tree.specs.Plain.{plain_token}
use Rattle.bounded_tokens.specs.declared.family_token.FamilyToken.{FamilyToken}
use Rattle.bounded_tokens.specs.declared.family_token.FamilyToken.TheVariants.{Plain, Family}

-- a token, with its boxes as a list
abbrev pub plain_family : FamilyToken → PlainToken
plain_family (Plain t) = PlainPlain (plain_token t)
plain_family (Family dim boxes) = PlainFamily dim boxes.items

abbrev pub plain_family_tokens : List FamilyToken → List PlainToken
plain_family_tokens tokens = map plain_family tokens
