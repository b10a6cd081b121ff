-- The elements of HTML that forms are about (HTML Standard, section "Forms"), by their local names.
use Rattle.std.specs.Prelude.{ℕ, Bool, ◌==◌, if◌then◌else◌, List, codes}
use Rattle.std.specs.Str.{bytes_eq}
use Rattle.element_names.specs.declared.natives.Native.{Native}
use Rattle.element_names.specs.declared.natives.Native.TheVariants.{Form, Fieldset, Legend, Button, Input, Select}
use Rattle.element_names.specs.declared.natives.Native.TheVariants.{Optgroup, OptionItem, Textarea, Datalist, Other}

-- the element with this local name
abbrev pub native : List ℕ → Native
native s =
    if bytes_eq s (codes "form") then Form
    else if bytes_eq s (codes "fieldset") then Fieldset
    else if bytes_eq s (codes "legend") then Legend
    else if bytes_eq s (codes "button") then Button
    else if bytes_eq s (codes "input") then Input
    else if bytes_eq s (codes "select") then Select
    else if bytes_eq s (codes "optgroup") then Optgroup
    else if bytes_eq s (codes "option") then OptionItem
    else if bytes_eq s (codes "textarea") then Textarea
    else if bytes_eq s (codes "datalist") then Datalist
    else Other

-- each has a place of its own, in the order in which they are declared
abbrev pub native_place : Native → ℕ
native_place Form = 0
native_place Fieldset = 1
native_place Legend = 2
native_place Button = 3
native_place Input = 4
native_place Select = 5
native_place Optgroup = 6
native_place OptionItem = 7
native_place Textarea = 8
native_place Datalist = 9
native_place Other = 10

-- both are the same
abbrev pub same_native : Native → Native → Bool
same_native a b = native_place a == native_place b
