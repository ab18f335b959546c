-- the forms of things that are of another
use Rattle.std.specs.Prelude.{Bool, true, false}
use Rattle.mea_family.specs.declared.form.Form.{Form}
use Rattle.mea_family.specs.declared.form.Form.TheVariants as forms

-- whether a thing of this form borrows what it is of
abbrev pub is_plain : Form → Bool
is_plain forms.Plain = true
is_plain forms.Owned = false
