-- Methods and encodings, as the definitions name them.
use Rattle.form_submission.specs.Attributes as meant
use Rattle.submit_plan.specs.declared.attributes.Encoding.{Encoding}
use Rattle.submit_plan.specs.declared.attributes.Encoding.TheVariants.{Urlencoded, Multipart, PlainText}
use Rattle.submit_plan.specs.declared.attributes.Method.{Method}
use Rattle.submit_plan.specs.declared.attributes.Method.TheVariants.{Get, Post, Dialog}

abbrev pub method_meant : Method → meant.Method
method_meant Get = meant.GetMethod
method_meant Post = meant.PostMethod
method_meant Dialog = meant.DialogMethod

abbrev pub encoding_meant : Encoding → meant.Encoding
encoding_meant Urlencoded = meant.Urlencoded
encoding_meant Multipart = meant.Multipart
encoding_meant PlainText = meant.PlainText
