-- A made script, written out.
use Rattle.std.specs.Prelude.{◌≡◌, ◌++◌, codes}
use Rattle.made_scripts.specs.Made.{made_script}

abbrev pub ScriptOfTwo : Type 0
ScriptOfTwo = made_script 2 ≡
    codes "class A\nassociate A\nobserve A k\non A constructor : super\non A constructor : internals this\n"
    ++ codes "on A attribute : formvalue this @3\nhas A formAssociated\ndefine x-a A\n"
    ++ codes "create $h html\nappend doc $h\ncreate $f form\nappend $h $f\n"
    ++ codes "create $e x-a\nsetattr $e name n\nsetattr $e k 1\nappend $f $e\n"
    ++ codes "create $e x-a\nsetattr $e name n\nsetattr $e k 2\nappend $f $e\n"
    ++ codes "submit $f\n"
