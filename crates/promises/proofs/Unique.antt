-- No second outcome meets a contract. The contract of each public call says: the answer equals a definition of the inputs, and so does the
-- content that each lent slice has at the end, refusals included. Two outcomes that meet such a contract on the same inputs are equal: `only`
-- for each of its equations, `only_both` for an answer and a content at once. docs/PROMISES.md lists the calls, with the definition that each
-- equation cites, and says where a contract has another form. Assumes nothing.
use mathlib.Core.Path.{◌≡◌, sym, ◌∙◌}

pub only : {A : Type 0} (defined : A) (x y : A) → x ≡ defined → y ≡ defined → x ≡ y
only defined x y p q = p ∙ sym q

pub only_both : {A B : Type 0} (answer : A) (content : B) (x y : A × B)
    → (x.0 ≡ answer) × (x.1 ≡ content) → (y.0 ≡ answer) × (y.1 ≡ content) → (x.0 ≡ y.0) × (x.1 ≡ y.1)
only_both answer content x y p q = (only answer x.0 y.0 p.0 q.0, only content x.1 y.1 p.1 q.1)
